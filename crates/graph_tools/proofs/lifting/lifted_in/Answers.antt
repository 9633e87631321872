-- All edges of the reduced graph are a network, and what is told of an answer there is lifted in the graph.
use Rattle.std.proofs.Common.{sym, subst}
use Rattle.net_graph.specs.Graph.{Graph}
use Rattle.net_graph.specs.Network.{IsNetwork}
use Rattle.graph_solve.specs.Task.{all_edges}
use Rattle.search_rules.specs.Options.{usual_in_graph}
use Rattle.graph_tools.specs.Solution.{IsAnswerFor}
use Rattle.graph_tools.proofs.LiftLaws.{lifted_for, offset_small, reduced_joined}
use Rattle.graph_tools.proofs.lifting.lifted_in.Goals as goal

pub answer_in-requires : goal.answer_in-requires
answer_in-requires c =
    subst (λ (h : Graph). IsNetwork h (all_edges h)) (sym c.graph.ensures.graph)
    (reduced_joined c.args.graph.now c.in_ok-reduced.reduced c.in_ok-reduced.ensures.networks c.requires)

pub lifted_by-requires-clause-offset : goal.lifted_by-requires-clause-offset
lifted_by-requires-clause-offset c =
    offset_small c.args.graph.now c.in_ok-reduced.reduced c.total-total.ensures.graph c.in_ok-reduced.ensures.fits

pub returns : goal.returns
returns c =
    let a = c.in_ok-answer.answer in
    lifted_for c.args.graph.now c.in_ok-reduced.reduced a c.lifted_by.result
    (record {
      reduction = c.in_ok-reduced.ensures.reduction;
      only = c.in_ok-reduced.ensures.only;
      fits = c.in_ok-reduced.ensures.fits;
      networks = c.in_ok-reduced.ensures.networks;
    })
    (subst (λ (h : Graph). IsAnswerFor usual_in_graph h a) c.graph.ensures.graph c.in_ok-answer.ensures)
    c.lifted_by.ensures

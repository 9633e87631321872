use Rattle.std.proofs.Common.{[], arith}
use Rattle.std.proofs.lemmas.Result.{IfOk-weaker}
use Rattle.net_graph.specs.Decision.{states_of}
use Rattle.net_graph.specs.DecisionLaws.{length-states_of}
use Rattle.dual_ascent.specs.Ascending.{IsAscent}
use Rattle.dual_ascent.proofs.lemmas.LoadLemmas.{edges-costs_of}
use Rattle.dual_ascent.proofs.ascent.ascend_with.Goals as goal

pub ascend_on-requires-clause-edges : goal.ascend_on-requires-clause-edges
ascend_on-requires-clause-edges g c =
    grind (
      arith,
      edges-costs_of c.args.g.now.edges (states_of c.args.g.now c.args.d.now) c.args.start (length-states_of c.args.g.now c.args.d.now c.requires.decision.edges),
      length-states_of c.args.g.now c.args.d.now c.requires.decision.edges,
    )

pub returns : goal.returns
returns g c =
    IfOk-weaker c.ascend_on.result _ (IsAscent c.args.g.now c.args.d.now c.args.start)
    (λ a behind_any. behind_any [] (record { feasible = c.requires.feasible; few = c.requires.few; left = c.requires.costs }))
    c.ascend_on.ensures

pub ascend_on-requires-clause-required : goal.ascend_on-requires-clause-required
ascend_on-requires-clause-required g c = rw c.deref.ensures.value c.in_ok-required.ensures.required

use Rattle.std.specs.Prelude.{length, map, slice_index}
use Rattle.std.proofs.Common.{sym, ap, subst, ◌∙◌, arith}
use Rattle.std.proofs.lemmas.Result.{IfOk-weaker}
use Rattle.net_graph.specs.Graph.{IsGraph}
use Rattle.graph_reduce.specs.Left.{edges_left}
use Rattle.graph_reduce.proofs.lemmas.LeftLaws.{ends_below, terminals_below, few_nodes, left_is_graph, few_left, length-numbers, left_graph_is}
use Rattle.graph_reduce.proofs.reduction.graph_left.Goals as goal

pub renumbered_edges-requires : goal.renumbered_edges-requires
renumbered_edges-requires c =
    grind (arith, length-numbers c.args.work.now.nodes, ends_below c.args._g.now c.requires.graph c.args.work.now c.requires.reduced)

pub renumbered_terminals-requires : goal.renumbered_terminals-requires
renumbered_terminals-requires c =
    grind (arith, length-numbers c.args.work.now.nodes, terminals_below c.args._g.now c.requires.graph c.args.work.now c.requires.reduced)

pub overflow_cast-len : goal.overflow_cast-len
overflow_cast-len c =
    grind (arith, few_nodes c.args._g.now c.requires.graph c.args.work.now c.requires.reduced, few_left c.args.work.now.nodes)

pub sound_graph-requires : goal.sound_graph-requires
sound_graph-requires c =
    let is = left_graph_is c.args._g.now c.requires.graph c.args.work.now c.requires.reduced c.len.result
    c.in_ok-edges.edges c.in_ok-terminals.terminals c.deref.result.now c.deref-2.result.now
    (c.deref.ensures.value ∙ c.requires.numbers) (c.deref-2.ensures.value ∙ c.requires.numbers)
    (c.len.ensures ∙ c.args.numbering.now.origins.ok.0 ∙ ap length c.requires.origins)
    (c.in_ok-edges.ensures ∙ ap (edges_left c.deref.result.now) c.edges.ensures)
    (c.in_ok-terminals.ensures ∙ ap (map (λ t. slice_index c.deref-2.result.now t)) c.terminals.ensures) in
    subst IsGraph (sym is) (left_is_graph c.args._g.now c.requires.graph c.args.work.now c.requires.reduced)

pub returns : goal.returns
returns c =
    let is = left_graph_is c.args._g.now c.requires.graph c.args.work.now c.requires.reduced c.len.result
    c.in_ok-edges.edges c.in_ok-terminals.terminals c.deref.result.now c.deref-2.result.now
    (c.deref.ensures.value ∙ c.requires.numbers) (c.deref-2.ensures.value ∙ c.requires.numbers)
    (c.len.ensures ∙ c.args.numbering.now.origins.ok.0 ∙ ap length c.requires.origins)
    (c.in_ok-edges.ensures ∙ ap (edges_left c.deref.result.now) c.edges.ensures)
    (c.in_ok-terminals.ensures ∙ ap (map (λ t. slice_index c.deref-2.result.now t)) c.terminals.ensures) in
    IfOk-weaker c.sound_graph.result _ _ (λ graph same. same ∙ is) c.sound_graph.ensures

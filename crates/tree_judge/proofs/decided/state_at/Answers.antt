use Rattle.std.proofs.Common.{arith}
use Rattle.std.proofs.lemmas.Bool.{iff_false}
use Rattle.net_graph.specs.declared.state.EdgeState.TheVariants.{Inside, Outside}
use Rattle.net_graph.specs.DecisionLaws.{states_of-at, states_of-from_missed, states_of-from_kept}
use Rattle.tree_judge.proofs.decided.state_at.Goals as goal

pub returns-in-Inside : goal.returns-in-Inside
returns-in-Inside c =
    grind (arith, states_of-at c.args.g.now c.args.decided.now c.args.n c.edge-e.result Inside c.edge-e.ensures.edge c.in-Inside.ensures)

pub returns-in-Outside : goal.returns-in-Outside
returns-in-Outside c =
    grind (arith, states_of-at c.args.g.now c.args.decided.now c.args.n c.edge-e.result Outside c.edge-e.ensures.edge c.in-Outside.ensures)

pub returns-in-Undecided : goal.returns-in-Undecided
returns-in-Undecided c =
    states_of-from_missed c.args.g.now c.args.decided.now c.args.n c.edge-e.result c.edge-e.ensures.edge
    c.in-Undecided.ensures (c.misses_end.ensures.0 c.if-misses_end.true)

pub returns-in-Undecided-2 : goal.returns-in-Undecided-2
returns-in-Undecided-2 c =
    states_of-from_kept c.args.g.now c.args.decided.now c.args.n c.edge-e.result c.edge-e.ensures.edge
    c.in-Undecided.ensures (iff_false c.misses_end.ensures c.if-misses_end.false)

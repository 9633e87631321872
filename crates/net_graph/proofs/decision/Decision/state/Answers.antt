-- What is decided of the edge itself and of its ends is its state.
use Rattle.std.proofs.Common.{inl}
use Rattle.std.proofs.lemmas.Bool.{iff_false}
use Rattle.net_graph.specs.DecisionLaws.{states_of-from_inside, states_of-from_free, states_of-from_missed, states_of-from_kept}
use Rattle.net_graph.proofs.decision.Decision.state.Goals as goal

pub returns-in-Inside : goal.returns-in-Inside
returns-in-Inside c = states_of-from_inside c.args.g.now c.args.self.now c.args.e c.requires.decision c.in-Inside.ensures

pub returns-in-Outside : goal.returns-in-Outside
returns-in-Outside c =
    states_of-from_free c.args.g.now c.args.self.now c.args.e c.requires.decision c.requires.edge (inl c.in-Outside.ensures)

pub returns-in-Undecided : goal.returns-in-Undecided
returns-in-Undecided c =
    states_of-from_missed c.args.g.now c.args.self.now c.args.e c.edge.result c.edge.ensures.edge c.in-Undecided.ensures
    (c.misses_end.ensures.0 c.if-misses_end.true)

pub returns-in-Undecided-2 : goal.returns-in-Undecided-2
returns-in-Undecided-2 c =
    states_of-from_kept c.args.g.now c.args.self.now c.args.e c.edge.result c.edge.ensures.edge c.in-Undecided.ensures
    (iff_false c.misses_end.ensures c.if-misses_end.false)

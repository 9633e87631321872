use Rattle.net_graph.proofs.lemmas.FeasibleLemmas.{feasible_with_cuts, feasible_without_cuts}
use Rattle.net_graph.proofs.feasibility.feasible.Goals as goal

pub returns-then-are_cuts : goal.returns-then-are_cuts
returns-then-are_cuts c =
    feasible_with_cuts c.args.g.now c.args.d.now c.args.p.now c.cuts-cuts.result.now c.cuts-cuts.result.now c.are_cuts.result c.edges_within_room.result
    c.cuts-cuts.ensures c.cuts-cuts.ensures c.are_cuts.ensures c.if-are_cuts.true c.edges_within_room.ensures

pub returns-else-are_cuts : goal.returns-else-are_cuts
returns-else-are_cuts c =
    feasible_without_cuts c.args.g.now c.args.d.now c.args.p.now c.cuts-cuts.result.now c.are_cuts.result c.cuts-cuts.ensures c.are_cuts.ensures c.if-are_cuts.false

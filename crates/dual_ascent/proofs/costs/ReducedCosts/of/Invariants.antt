use Rattle.std.proofs.Common.{◌≡◌, take}
use Rattle.net_graph.specs.Decision.{states_of}
use Rattle.dual_ascent.specs.Costs.{costs_of}
use Rattle.dual_ascent.proofs.costs.ReducedCosts.of.Given as goal

abbrev pub invariant-loop-cut : goal.invariant-loop-cut
invariant-loop-cut l = l.costs ≡ costs_of l.g.edges (states_of l.g l.d) (take l.cut-index l.cut-items)

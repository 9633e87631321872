use Rattle.std.proofs.Common.{◌<◌, false, length, replicate}
use Rattle.net_graph.specs.Adds.{Adds}
use Rattle.branch.specs.SaturatedArcs.{IsUsedUpEdge}
use Rattle.branch.proofs.saturation.saturated_edges.Given as goal

-- the edges so far that have a saturated arc
abbrev pub invariant-loop-n : goal.invariant-loop-n
invariant-loop-n l = Adds (λ k. (k < l.n) × IsUsedUpEdge l.costs k) (replicate (length l.g.edges) false) l.set

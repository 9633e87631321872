use Rattle.std.proofs.Common.{◌≡◌, length, All}
use Rattle.branch.specs.SaturatedArcs.{IsOfSaturated}
use Rattle.branch.proofs.saturated.found_arcs.Given as goal

abbrev pub invariant-loop-place : goal.invariant-loop-place
invariant-loop-place l = (length l.found ≡ l.g.vertices) × All (IsOfSaturated l.g l.costs) l.arcs.items

use Rattle.std.proofs.Common.{All}
use Rattle.branch.specs.SaturatedArcs.{IsOfSaturated}
use Rattle.branch.proofs.saturated.list_saturated.Given as goal

abbrev pub invariant-loop-arc : goal.invariant-loop-arc
invariant-loop-arc l = All (IsOfSaturated l.g l.costs) l.arcs.items

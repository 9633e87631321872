use Rattle.std.proofs.Common.{take}
use Rattle.dual_ascent.specs.Costs.{IsLeastOf}
use Rattle.dual_ascent.specs.Entering.{IsLeftOfOne}
use Rattle.dual_ascent.proofs.entering.least_left.Given as goal

abbrev pub invariant-loop-e : goal.invariant-loop-e
invariant-loop-e l = IsLeastOf (IsLeftOfOne (take l.e-index l.list)) l.least

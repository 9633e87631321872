use Rattle.std.proofs.Common.{◌≡◌, take, false}
use Rattle.std.specs.List.{list_any}
use Rattle.dual_ascent.specs.Carried.{is_entered_along}
use Rattle.dual_ascent.proofs.carried.is_entered.Given as goal

abbrev pub invariant-loop-e : goal.invariant-loop-e
invariant-loop-e l = list_any (is_entered_along l.members) (take l.e-index l.edges) ≡ false

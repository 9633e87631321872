use Rattle.std.proofs.Common.{◌≡◌, map, filter, take, eqb}
use Rattle.dual_ascent.specs.declared.entering.EnteringArc.{EnteringArc}
use Rattle.dual_ascent.proofs.entering.list_with_left.Given as goal

abbrev pub invariant-loop-e : goal.invariant-loop-e
invariant-loop-e l = l.list.items ≡ map (λ (e : EnteringArc). e.arc) (filter (λ (e : EnteringArc). eqb e.left l.left) (take l.e-index l.entering))

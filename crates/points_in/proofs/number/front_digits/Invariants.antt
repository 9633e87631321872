use Rattle.std.specs.Prelude.{length, ◌-◌}
use Rattle.points_in.proofs.lemmas.Numbers.{AreDigits}
use Rattle.points_in.proofs.number.front_digits.Given as goal

abbrev pub invariant-loop-len : goal.invariant-loop-len
invariant-loop-len l = AreDigits l.bytes l.len l.magnitude

abbrev pub decreases-loop-len : goal.decreases-loop-len
decreases-loop-len l = length l.bytes - l.len

use Rattle.std.specs.Prelude.{length, ◌-◌}
use Rattle.points_in.proofs.lemmas.ReadSoFar.{HasRead}
use Rattle.points_in.proofs.read.points_in_text.Given as goal

abbrev pub invariant-loop-points : goal.invariant-loop-points
invariant-loop-points l = HasRead l.bytes l.at l.points

abbrev pub decreases-loop-points : goal.decreases-loop-points
decreases-loop-points l = length l.bytes - l.at

use Rattle.std.proofs.Common.{count_by, not}
use Rattle.spanning.specs.Part.{IsPart}
use Rattle.spanning.proofs.joining.whole_part.Given as goal

abbrev pub invariant-loop-place : goal.invariant-loop-place
invariant-loop-place l = IsPart l.n l.pairs l.part.inside l.part.chosen

abbrev pub decreases-loop-place : goal.decreases-loop-place
decreases-loop-place l = count_by not l.part.inside

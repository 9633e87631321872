use Rattle.fst_concat.specs.Parts.{ArePartsUpTo}
use Rattle.fst_concat.proofs.parts.join_parts.Given as goal

abbrev pub invariant-loop-place : goal.invariant-loop-place
invariant-loop-place l = ArePartsUpTo l.points l.trees l.set l.place l.labels

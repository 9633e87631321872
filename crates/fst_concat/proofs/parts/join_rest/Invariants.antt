use Rattle.std.proofs.Common.{◌≡◌, drop}
use Rattle.fst_concat.specs.Parts.{joined_with}
use Rattle.fst_concat.proofs.parts.join_rest.Given as goal

abbrev pub invariant-loop-member : goal.invariant-loop-member
invariant-loop-member l = joined_with l.first (drop l.member-index l.rest) l.labels ≡ joined_with l.first l.rest l.initial.labels

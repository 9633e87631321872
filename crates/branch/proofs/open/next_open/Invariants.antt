use Rattle.branch.proofs.lemmas.ScanLemmas.{IsLeastSoFar}
use Rattle.branch.proofs.open.next_open.Given as goal

abbrev pub invariant-loop-place : goal.invariant-loop-place
invariant-loop-place l = IsLeastSoFar l.length l.notes l.place l.least l.found

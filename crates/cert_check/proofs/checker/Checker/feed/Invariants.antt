use Rattle.std.proofs.Common.{ℕ, ◌≡◌, List, ◌++◌, length}
use Rattle.cert_check.specs.Named.{Named}
use Rattle.cert_check.specs.Checking.{StandsForBytesIn}
use Rattle.cert_check.proofs.checker.Checker.feed.Given as goal

-- the checker stands for the bytes of the piece that are not left
abbrev pub invariant-loop-rest : goal.invariant-loop-rest
invariant-loop-rest l = (front : List ℕ) × (l.piece ≡ front ++ l.rest)
    × ((N : Named) (bytes : List ℕ) → StandsForBytesIn N bytes l.fn.self
    → StandsForBytesIn N (bytes ++ front) l.self)

abbrev pub decreases-loop-rest : goal.decreases-loop-rest
decreases-loop-rest l = length l.rest

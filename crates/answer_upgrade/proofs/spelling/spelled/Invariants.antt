use Rattle.std.proofs.Common.{◌≡◌, ◌+◌, ℕ, List, ◌++◌, length}
use Rattle.answer_text.specs.Reader.{bytes_fed}
use Rattle.answer_upgrade.specs.Spelling.{IsReading}
use Rattle.answer_upgrade.proofs.spelling.spelled.Given as goal

-- the reader stands for the bytes that are not left
abbrev pub invariant-loop-rest : goal.invariant-loop-rest
invariant-loop-rest l = record {
  fed : bytes_fed l.reader + length l.rest ≡ length l.bytes;
  reads : (front : List ℕ) × (l.bytes ≡ front ++ l.rest) × IsReading l.vertices front l.reader;
}

abbrev pub decreases-loop-rest : goal.decreases-loop-rest
decreases-loop-rest l = length l.rest

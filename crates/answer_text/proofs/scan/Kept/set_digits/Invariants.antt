use Rattle.std.proofs.Common.{◌≡◌, ◌+◌, length, take}
use Rattle.answer_text.specs.declared.scan.Scan.TheVariants as scan
use Rattle.answer_text.specs.Scanning.{IsRun, IsSound}
use Rattle.answer_text.specs.Spelling.{FitsName}
use Rattle.answer_text.proofs.scan.Kept.set_digits.Given as goal

-- the digits so far are a run
abbrev pub invariant-loop-taken : goal.invariant-loop-taken
invariant-loop-taken l = record {
  run : IsSound l.fn.self (scan.Set l.place) → FitsName l.fn.self.name
      → IsRun l.fn.self (scan.Set l.place) (take l.taken l.piece) l.self (scan.Set (l.place + l.taken));
  stage : l.self.stage ≡ l.fn.self.stage;
  size : length l.self.members ≡ length l.fn.self.members;
}

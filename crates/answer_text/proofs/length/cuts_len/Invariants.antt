use Rattle.std.proofs.Common.{◌≡◌, ◌*◌, ◌≤◌, length, map, take}
use Rattle.std.specs.Prelude.{All}
use Rattle.answer_text.specs.LineKinds as line
use Rattle.answer_text.specs.Lines.{lines_text}
use Rattle.answer_text.specs.Spelling.{FitsWeight}
use Rattle.answer_text.proofs.length.cuts_len.Given as goal

-- the length of the lines of the cuts passed, whose weights fit
abbrev pub invariant-loop-cut : goal.invariant-loop-cut
invariant-loop-cut l = record {
  length : l.sum ≡ length (lines_text (map line.Cut (take l.cut-index l.cuts)));
  short : l.sum ≤ 651 * l.cut-index;
  fits : All FitsWeight (take l.cut-index l.cuts);
}

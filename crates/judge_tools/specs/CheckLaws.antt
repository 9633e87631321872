-- What `check` tells is true.
use Rattle.std.proofs.Common.{ℕ, ◌≡◌, List}
use Rattle.rst_outside.specs.Sink.{Appended}
use Rattle.points_in.specs.declared.point.Point.{Point}
use Rattle.points_in.specs.Terminals.{terminals_of}
use Rattle.cert_check.specs.declared.verdict.Finished.{Finished}
use Rattle.cert_check.specs.declared.verdict.Ruling.{Ruling}
use Rattle.cert_check.specs.Named.{on_grid}
use Rattle.cert_check.specs.Rulings.{verdict_of}
use Rattle.tool_frame.specs.Statuses.{answer_code}
use Rattle.tool_frame.specs.Outside.{Outside}
use Rattle.verdict_line.specs.declared.counting.Counting.TheVariants.{FromZero}
use Rattle.verdict_line.specs.TruthLaws.{judges_truly}
use Rattle.verdict_line.specs.Verdicts.{line_text_by, ruling_status}
use Rattle.judge_tools.specs.Judging.{IsChecked}
use Rattle.judge_tools.specs.Truth.{ChecksTruly}

-- Where the line of the verdict was written, what it tells is true.
pub checks_truly : (name : List ℕ) (before after : Outside) (ps : List Point) (bytes : List ℕ) (f : Finished)
    (ruling : Ruling) (status : ℕ) → f.verdict ≡ verdict_of ruling →
    IsChecked name before.read after.read ps bytes f →
    Appended before.written.out.taken (line_text_by FromZero ruling) after.written.out.taken →
    status ≡ answer_code (ruling_status ruling) → ChecksTruly name before after status
checks_truly name before after ps bytes f ruling status is checked told ends = (
  ps,
  bytes,
  checked.points,
  checked.input.came,
  judges_truly (on_grid (terminals_of ps)) bytes f FromZero ruling before.written.out after.written.out status is
      checked.input.within checked.judges told ends,
)

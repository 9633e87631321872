-- What is true where `check` told a verdict.
use Rattle.std.specs.Prelude.{ℕ, List}
use Rattle.rst_outside.specs.Source.{CameToTheEnd}
use Rattle.points_in.specs.declared.point.Point.{Point}
use Rattle.points_in.specs.Terminals.{terminals_of}
use Rattle.cert_check.specs.Named.{on_grid}
use Rattle.tool_frame.specs.declared.take.TheConstants.{TEXT_LIMIT}
use Rattle.tool_frame.specs.Outside.{Outside}
use Rattle.tool_frame.specs.Points.{FileLists}
use Rattle.verdict_line.specs.Truth.{JudgesTruly}

-- The file lists points and the input was read to its end; the status is 0 exactly where its bytes are accepted as an
-- answer for the points, and then `out` gained the line that says so, which is true of the points' grid.
abbrev pub ChecksTruly : List ℕ → Outside → Outside → ℕ → Type 0
ChecksTruly name before after status =
    (ps : List Point) × (bytes : List ℕ) × FileLists TEXT_LIMIT before.read.shelf name ps
    × CameToTheEnd before.read.input.rest bytes after.read.input.rest
    × JudgesTruly (on_grid (terminals_of ps)) bytes before.written.out after.written.out status

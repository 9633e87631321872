-- What is found of an answer, by what was read.
use Rattle.std.specs.Prelude.{ℕ, ◌≡◌, List, Result, Ok, Err}
use Rattle.points_in.specs.declared.point.Point.{Point}
use Rattle.points_in.specs.Terminals.{terminals_of}
use Rattle.cert_check.specs.declared.verdict.Finished.{Finished}
use Rattle.cert_check.specs.Named.{on_grid}
use Rattle.tool_frame.specs.declared.take.TheConstants.{TEXT_LIMIT}
use Rattle.tool_frame.specs.Outside.{Readable}
use Rattle.tool_frame.specs.Taking.{IsWholeInput, IsInputFault}
use Rattle.tool_frame.specs.Points.{FileLists, IsPointsFault}
use Rattle.verdict_line.specs.Judging.{JudgesBytes, finished_of}
use Rattle.judge_tools.specs.declared.judge.TheConstants.{ANSWER_LIMIT}
use Rattle.judge_tools.specs.declared.judge.CheckFault.{CheckFault}
use Rattle.judge_tools.specs.declared.judge.CheckFault.TheVariants.{Points, Input}
use Rattle.judge_tools.specs.declared.judge.Judgement.{Judgement}

-- The file lists these points, whose grid isn't too long, the input was read to its end, and this is the verdict on its
-- bytes as an answer for the points.
pub record IsChecked (name : List ℕ) (before after : Readable) (ps : List Point) (bytes : List ℕ) (f : Finished)
    : Type 0 where
  pub points : FileLists TEXT_LIMIT before.shelf name ps
  pub input : IsWholeInput ANSWER_LIMIT before.input after.input bytes
  pub judges : JudgesBytes (on_grid (terminals_of ps)) bytes f

-- The file lists points, whose grid isn't too long.
abbrev pub FileHasGrid : Readable → List ℕ → Type 0
FileHasGrid before name = (ps : List Point) × FileLists TEXT_LIMIT before.shelf name ps

-- Why an answer isn't judged, under the name of a file: the file is at fault, and the input is as before; or the input
-- is, and the file has a grid.
abbrev pub IsCheckFault : List ℕ → Readable → Readable → CheckFault → Type 0
IsCheckFault name before after (Points fault) =
    IsPointsFault TEXT_LIMIT before.shelf after.shelf name fault × (after.input ≡ before.input)
IsCheckFault name before after (Input fault) =
    FileHasGrid before name × IsInputFault ANSWER_LIMIT before.input after.input fault

-- What is found of an answer under the name of a file, for the grid of the file's points; or why it isn't judged.
abbrev pub FindsJudgement : List ℕ → Readable → Readable → Result Judgement CheckFault → Type 0
FindsJudgement name before after (Ok judgement) =
    (ps : List Point) × (bytes : List ℕ) × IsChecked name before after ps bytes (finished_of judgement.judged)
    × (judgement.grid ≡ terminals_of ps)
FindsJudgement name before after (Err fault) = IsCheckFault name before after fault

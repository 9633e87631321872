-- What `check` finds, by what it read.
use Rattle.std.specs.Prelude.{ℕ, ◌≡◌, List, codes, Result, Ok, Err}
use Rattle.points_in.specs.declared.point.Point.{Point}
use Rattle.cert_check.specs.declared.verdict.Finished.{Finished}
use Rattle.cert_check.specs.declared.verdict.Ruling.{Ruling}
use Rattle.cert_check.specs.Rulings.{verdict_of}
use Rattle.tool_frame.specs.declared.status.FaultStatus.{FaultStatus}
use Rattle.tool_frame.specs.declared.status.TheConstants.{NO_MEMORY}
use Rattle.tool_frame.specs.Outside.{Readable, Outside}
use Rattle.tool_frame.specs.Ends.{Print, Ends}
use Rattle.tool_frame.specs.Leaves.{LeavesFiles}
use Rattle.tool_frame.specs.FaultTexts.{input_fault_text, input_fault_status, points_fault_text, points_fault_status}
use Rattle.judge_tools.specs.declared.judge.CheckFault.{CheckFault}
use Rattle.judge_tools.specs.declared.judge.CheckFault.TheVariants.{Points, Input}
use Rattle.verdict_line.specs.declared.counting.Counting.TheVariants.{FromZero}
use Rattle.verdict_line.specs.Verdicts.{line_print}
use Rattle.judge_tools.specs.Judging.{IsChecked, IsCheckFault}

-- What `check` finds under the name of a file: the line that tells the verdict, with its status; or why it judges
-- nothing.
abbrev pub Checks : List ℕ → Readable → Readable → Result Print CheckFault → Type 0
Checks name before after (Ok print) =
    (ps : List Point) × (bytes : List ℕ) × (f : Finished) × (ruling : Ruling)
    × IsChecked name before after ps bytes f × (f.verdict ≡ verdict_of ruling) × (print ≡ line_print FromZero ruling)
Checks name before after (Err fault) = IsCheckFault name before after fault

-- what is said of a fault
abbrev pub check_fault_text : CheckFault → List ℕ
check_fault_text (Points fault) = points_fault_text fault
check_fault_text (Input fault) = input_fault_text fault

-- the status of a fault
abbrev pub check_fault_status : CheckFault → FaultStatus
check_fault_status (Points fault) = points_fault_status fault
check_fault_status (Input fault) = input_fault_status fault

-- A run of `check` under the name of a file. Memory is wanting only while the input is as before the call.
pub record EndsCheck (name : List ℕ) (before after : Outside) (status : ℕ) : Type 0 where
  pub ends : Ends check_fault_status check_fault_text (codes "check") (Checks name) LeavesFiles before after status
  pub unread : status ≡ NO_MEMORY → after.read.input ≡ before.read.input

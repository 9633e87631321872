-- What `upgrade` finds, by what it read.
use Rattle.std.specs.Prelude.{ℕ, ◌≡◌, ◌↔◌, List, codes, Result, Ok, Err}
use Rattle.points_in.specs.declared.point.Point.{Point}
use Rattle.points_in.specs.Terminals.{terminals_of}
use Rattle.answer_text.specs.Value.{WrittenAnswer}
use Rattle.answer_text.specs.Text.{answer_text}
use Rattle.answer_text.specs.declared.form.Form.TheVariants as form
use Rattle.answer_text.specs.Spelling.{SpellsAnswer}
use Rattle.answer_upgrade.specs.declared.told.Spelled.TheVariants.{Fault}
use Rattle.answer_upgrade.specs.Spelling.{TellsSpelling}
use Rattle.answer_upgrade.specs.Upgraded.{IsSpelling, upgraded}
use Rattle.tool_frame.specs.declared.status.AnswerStatus.TheVariants.{Done}
use Rattle.tool_frame.specs.declared.status.FaultStatus.{FaultStatus}
use Rattle.tool_frame.specs.declared.status.FaultStatus.TheVariants.{Malformed}
use Rattle.tool_frame.specs.declared.take.TheConstants.{TEXT_LIMIT}
use Rattle.tool_frame.specs.Outside.{Readable, Outside}
use Rattle.tool_frame.specs.Ends.{Print, Ends}
use Rattle.tool_frame.specs.Leaves.{LeavesFiles}
use Rattle.tool_frame.specs.FaultTexts.{input_fault_text, input_fault_status, points_fault_text, points_fault_status}
use Rattle.tool_frame.specs.Taking.{IsWholeInput, IsInputFault}
use Rattle.tool_frame.specs.Points.{FileLists, IsPointsFault, grid_of_points}
use Rattle.tree_judge.specs.declared.cause.Cause.TheVariants.{NotAnswer}
use Rattle.cert_check.specs.declared.verdict.Finished.{Finished}
use Rattle.cert_check.specs.Verdicts.{IsVerdict}
use Rattle.verdict_line.specs.Verdicts.{refusal}
use Rattle.judge_tools.specs.declared.upgrading.TheConstants.{UPGRADE_LIMIT}
use Rattle.judge_tools.specs.declared.upgrading.UpgradeFault.{UpgradeFault}
use Rattle.judge_tools.specs.declared.upgrading.TakenAnswer.{TakenAnswer}
use Rattle.judge_tools.specs.declared.upgrading.UpgradeFault.TheVariants.{Points, Input, Misspelled}
use Rattle.judge_tools.specs.Judging.{FileHasGrid}

-- The file lists these points, whose grid isn't too long, and the input was read to its end, of so many bytes at most
-- as an upgrade takes.
pub record IsTaken (name : List ℕ) (before after : Readable) (ps : List Point) (bytes : List ℕ) : Type 0 where
  pub points : FileLists TEXT_LIMIT before.shelf name ps
  pub input : IsWholeInput UPGRADE_LIMIT before.input after.input bytes

-- the same answer in version 2, as it is printed
abbrev pub upgrade_print : WrittenAnswer → Print
upgrade_print answer = record { text = answer_text (upgraded answer); status = Done }

-- Why nothing is upgraded, under the name of a file: the file is at fault, and the input is as before; or the input is;
-- or it ceases to spell an answer in a line. Of the points no more is used than how many vertices their grid has.
abbrev pub IsUpgradeFault : List ℕ → Readable → Readable → UpgradeFault → Type 0
IsUpgradeFault name before after (Points fault) =
    IsPointsFault TEXT_LIMIT before.shelf after.shelf name fault × (after.input ≡ before.input)
IsUpgradeFault name before after (Input fault) =
    FileHasGrid before name × IsInputFault UPGRADE_LIMIT before.input after.input fault
IsUpgradeFault name before after (Misspelled line) =
    (ps : List Point) × (bytes : List ℕ) × IsTaken name before after ps bytes
    × TellsSpelling (grid_of_points ps).vertices bytes (Fault line)

-- these bytes have the verdicts that those have, as answers for the terminals
abbrev pub HaveOneVerdict : List Point → List ℕ → List ℕ → Type 0
HaveOneVerdict ps these those = (f : Finished) → IsVerdict ps these f ↔ IsVerdict ps those f

-- What `upgrade` finds under the name of a file: the answer that the input spells, in version 2, of which `check` says
-- what it says of the input; or why there is none.
abbrev pub Upgrades : List ℕ → Readable → Readable → Result Print UpgradeFault → Type 0
Upgrades name before after (Ok print) =
    (ps : List Point) × (bytes : List ℕ) × (answer : WrittenAnswer) × IsTaken name before after ps bytes
    × SpellsAnswer (form.OnGrid (grid_of_points ps).vertices) bytes answer
    × HaveOneVerdict (terminals_of ps) bytes (answer_text (upgraded answer)) × (print ≡ upgrade_print answer)
Upgrades name before after (Err fault) = IsUpgradeFault name before after fault

-- What is taken under the name of a file: the bytes of the input, which spell an answer; or why they are not.
abbrev pub TakesAnswer : List ℕ → Readable → Readable → Result TakenAnswer UpgradeFault → Type 0
TakesAnswer name before after (Ok taken) =
    (ps : List Point) × IsTaken name before after ps taken.bytes.items
    × (taken.vertices ≡ (grid_of_points ps).vertices) × IsSpelling taken.vertices taken.bytes.items
TakesAnswer name before after (Err fault) = IsUpgradeFault name before after fault

-- what is said of a fault
abbrev pub upgrade_fault_text : UpgradeFault → List ℕ
upgrade_fault_text (Points fault) = points_fault_text fault
upgrade_fault_text (Input fault) = input_fault_text fault
upgrade_fault_text (Misspelled line) = refusal (NotAnswer line)

-- the status of a fault
abbrev pub upgrade_fault_status : UpgradeFault → FaultStatus
upgrade_fault_status (Points fault) = points_fault_status fault
upgrade_fault_status (Input fault) = input_fault_status fault
upgrade_fault_status (Misspelled line) = Malformed

-- a run of `upgrade` under the name of a file
abbrev pub EndsUpgrade : List ℕ → Outside → Outside → ℕ → Type 0
EndsUpgrade name = Ends upgrade_fault_status upgrade_fault_text (codes "upgrade") (Upgrades name) LeavesFiles

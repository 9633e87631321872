-- How a run of any tool ends, from what was read to the status and to what was written.
use Rattle.std.specs.Prelude.{ℕ, ◌≡◌, List, ◌++◌, codes, Option, None, Some, Result, Ok, Err, IfSome, ◌⊎◌}
use Rattle.rst_outside.specs.Sink.{SinkState, Wrote, CutShort}
use Rattle.tool_frame.specs.declared.status.AnswerStatus.{AnswerStatus}
use Rattle.tool_frame.specs.declared.status.FaultStatus.{FaultStatus}
use Rattle.tool_frame.specs.declared.status.TheConstants.{UNWRITTEN, NO_MEMORY}
use Rattle.tool_frame.specs.Statuses.{answer_code, fault_code}
use Rattle.tool_frame.specs.Outside.{Readable, Writable, Outside}

-- The text was written on `err`, or a proper prefix of it where `err` failed.
abbrev pub Reports : SinkState → List ℕ → SinkState → Type 0
Reports err text err' = Wrote err text err' ⊎ CutShort err text err'

-- what is said of a fault under a tool
abbrev pub fault_line : List ℕ → List ℕ → List ℕ
fault_line tool fault = codes "rst: " ++ tool ++ codes ": " ++ fault ++ codes "\n"

-- what is said where memory is wanting, and under a tool where a write failed
abbrev pub no_memory_line : List ℕ
no_memory_line = codes "rst: out of memory\n"

abbrev pub unwritten_line : List ℕ → List ℕ
unwritten_line tool = fault_line tool (codes "cannot write")

-- what a tool prints: a text, and the status that it ends with
pub record Print : Type 0 where
  pub text : List ℕ
  pub status : AnswerStatus

-- The whole text was written on `out`, and nothing was said on `err`.
pub record Printed (print : Print) (before after : Writable) (status : ℕ) : Type 0 where
  pub ends : status ≡ answer_code print.status
  pub wrote : Wrote before.out print.text after.out
  pub silent : after.err ≡ before.err

-- A proper prefix of the text was written on `out`, which failed.
pub record Unwritten (tool : List ℕ) (print : Print) (before after : Writable) (status : ℕ) : Type 0 where
  pub ends : status ≡ UNWRITTEN
  pub cut : CutShort before.out print.text after.out
  pub reports : Reports before.err (unwritten_line tool) after.err

-- Nothing was written on `out`, and `err` says why.
pub record Refuses (line : List ℕ) (code : ℕ) (before after : Writable) (status : ℕ) : Type 0 where
  pub ends : status ≡ code
  pub out : after.out ≡ before.out
  pub reports : Reports before.err line after.err

-- The text was written whole or in part.
abbrev pub PrintsOrNot : List ℕ → Print → Writable → Writable → ℕ → Type 0
PrintsOrNot tool print before after status =
    Printed print before after status ⊎ Unwritten tool print before after status

-- How a run ends, by what the tool found: nothing where memory was wanting, else what it prints or a fault.
abbrev pub Concludes : {F : Type 0} → (F → FaultStatus) → (F → List ℕ) → List ℕ → Option (Result Print F) → Writable →
    Writable → ℕ → Type 0
Concludes fault_status fault_text tool None before after status = Refuses no_memory_line NO_MEMORY before after status
Concludes fault_status fault_text tool (Some (Err fault)) before after status =
    Refuses (fault_line tool (fault_text fault)) (fault_code (fault_status fault)) before after status
Concludes fault_status fault_text tool (Some (Ok print)) before after status =
    PrintsOrNot tool print before after status

-- A run of a tool. What it found is related to what was read, which the run left as the tool may leave it; and the
-- run ends as is due to what was found.
pub record Ends {F : Type 0} (fault_status : F → FaultStatus) (fault_text : F → List ℕ) (tool : List ℕ)
    (Finds : Readable → Readable → Result Print F → Type 0) (Leaves : Readable → Readable → Type 0)
    (before after : Outside) (status : ℕ) : Type 0 where
  pub found : Option (Result Print F)
  pub finds : IfSome found (Finds before.read after.read)
  pub leaves : Leaves before.read after.read
  pub concludes : Concludes fault_status fault_text tool found before.written after.written status

-- Files of full trees as an input.
use Rattle.std.specs.Prelude.{ℕ, ◌≡◌, List, Result, Ok, Err}
use Rattle.section_text.specs.Judged.{IsFirstFault}
use Rattle.fst_file.specs.declared.fault.FstFault.{FstFault}
use Rattle.fst_file.specs.Value.{FstValue}
use Rattle.fst_file.specs.Format.{fst_format}
use Rattle.fst_file.specs.Text.{SpellsFstFile}
use Rattle.fst_file.specs.Said.{fst_passes_limit, IsMemory}
use Rattle.tool_frame.specs.declared.status.FaultStatus.{FaultStatus}
use Rattle.tool_frame.specs.FaultTexts.{format_fault_status}

-- The file that the bytes spell; or their first fault, which is no want of memory.
abbrev pub ReadsFst : List ℕ → Result FstValue FstFault → Type 0
ReadsFst bytes (Ok file) = SpellsFstFile bytes file
ReadsFst bytes (Err fault) = IsFirstFault fst_format bytes fault × (IsMemory fault → ⊥)

-- the status that a fault of theirs ends with
abbrev pub fst_fault_status : FstFault → FaultStatus
fst_fault_status fault = format_fault_status (fst_passes_limit fault)

-- bytes that spell a file have no fault
abbrev pub SpelledHasNoFault : Type 0
SpelledHasNoFault =
    (bytes : List ℕ) (file : FstValue) (fault : FstFault) → SpellsFstFile bytes file → ReadsFst bytes (Err fault) → ⊥

-- bytes spell one file at most
abbrev pub OneReading : Type 0
OneReading = (bytes : List ℕ) (v w : FstValue) → SpellsFstFile bytes v → SpellsFstFile bytes w → v ≡ w

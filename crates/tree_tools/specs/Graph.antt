-- What `fst2graph` finds, by what it read.
use Rattle.std.specs.Prelude.{ℕ, ◌≡◌, List, codes, Result, Ok, Err}
use Rattle.points_in.specs.declared.point.Point.{Point}
use Rattle.fst_file.specs.Value.{FstValue}
use Rattle.fst_file.specs.Text.{SpellsFstFile}
use Rattle.printed_texts.specs.Grid.{grid_stp_text}
use Rattle.tool_frame.specs.declared.status.AnswerStatus.TheVariants.{Done}
use Rattle.tool_frame.specs.declared.take.TheConstants.{TEXT_LIMIT}
use Rattle.tool_frame.specs.Outside.{Outside}
use Rattle.tool_frame.specs.Ends.{Print, Ends}
use Rattle.tool_frame.specs.FaultTexts.{text_fault_text, text_fault_status}
use Rattle.tool_frame.specs.FromText.{FromText}
use Rattle.tool_frame.specs.Leaves.{LeavesShelf}
use Rattle.fst_file.specs.declared.fault.FstFault.{FstFault}
use Rattle.fst_file.specs.Said.{fst_fault_text}
use Rattle.tree_inputs.specs.Files.{ReadsFst, fst_fault_status}

-- what is printed of points: their grid as an STP file
abbrev pub grid_print : List Point → Print
grid_print points = record { text = grid_stp_text points; status = Done }

-- What `fst2graph` finds in a text: the grid of the points of the file that it spells; or its first fault.
abbrev pub GraphsFile : List ℕ → Result Print FstFault → Type 0
GraphsFile bytes (Ok print) = (file : FstValue) × SpellsFstFile bytes file × (print ≡ grid_print file.points)
GraphsFile bytes (Err fault) = ReadsFst bytes (Err fault)

-- A run of `fst2graph`.
abbrev pub EndsFst2graph : Outside → Outside → ℕ → Type 0
EndsFst2graph before after status =
    Ends (text_fault_status fst_fault_status) (text_fault_text fst_fault_text) (codes "fst2graph")
    (FromText TEXT_LIMIT GraphsFile) LeavesShelf before after status

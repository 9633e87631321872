-- What `dumpfst` finds, by what it read.
use Rattle.std.specs.Prelude.{ℕ, ◌≡◌, Bool, List, codes, Result, Ok, Err}
use Rattle.fst_file.specs.Value.{FstValue}
use Rattle.fst_file.specs.Text.{SpellsFstFile}
use Rattle.printed_texts.specs.Trees.{tree_list_text}
use Rattle.tool_frame.specs.declared.status.AnswerStatus.TheVariants.{Done}
use Rattle.tool_frame.specs.declared.take.TheConstants.{TEXT_LIMIT}
use Rattle.tool_frame.specs.Outside.{Outside}
use Rattle.tool_frame.specs.Ends.{Print, Ends}
use Rattle.tool_frame.specs.FaultTexts.{text_fault_text, text_fault_status}
use Rattle.tool_frame.specs.FromText.{FromText}
use Rattle.tool_frame.specs.Leaves.{LeavesShelf}
use Rattle.fst_file.specs.declared.fault.FstFault.{FstFault}
use Rattle.fst_file.specs.Said.{fst_fault_text}
use Rattle.tree_inputs.specs.Files.{ReadsFst, fst_fault_status}

-- what is printed of a file: the list of its trees, with or without their pieces
abbrev pub dump_print : Bool → FstValue → Print
dump_print pieces file = record { text = tree_list_text file.points pieces file.trees; status = Done }

-- What `dumpfst` finds in a text: the list of the trees of the file that it spells; or its first fault.
abbrev pub Dumps : Bool → List ℕ → Result Print FstFault → Type 0
Dumps pieces bytes (Ok print) = (file : FstValue) × SpellsFstFile bytes file × (print ≡ dump_print pieces file)
Dumps pieces bytes (Err fault) = ReadsFst bytes (Err fault)

-- A run of `dumpfst`, with or without pieces.
abbrev pub EndsDumpfst : Bool → Outside → Outside → ℕ → Type 0
EndsDumpfst pieces before after status =
    Ends (text_fault_status fst_fault_status) (text_fault_text fst_fault_text) (codes "dumpfst")
    (FromText TEXT_LIMIT (Dumps pieces)) LeavesShelf before after status

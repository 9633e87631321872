-- What `bb` finds, by what it read.
use Rattle.std.specs.Prelude.{ℕ, ◌≡◌, ◌++◌, Bool, List, length, codes, decimal, Result, Ok, Err}
use Rattle.fst_file.specs.Value.{FstValue}
use Rattle.fst_file.specs.Text.{SpellsFstFile}
use Rattle.concatenation.specs.Concatenation.{all_of}
use Rattle.fst_concat.specs.Chosen.{IsFirstApart}
use Rattle.answer_text.specs.declared.head.ConcatNote.{ConcatNote}
use Rattle.cert_tree.specs.declared.split.SplitOn.{SplitOn}
use Rattle.cert_tree.specs.Tree.{Tree}
use Rattle.tool_frame.specs.declared.status.FaultStatus.{FaultStatus}
use Rattle.tool_frame.specs.declared.status.FaultStatus.TheVariants.{Malformed}
use Rattle.tool_frame.specs.declared.take.TheConstants.{TEXT_LIMIT}
use Rattle.tool_frame.specs.Outside.{Outside}
use Rattle.tool_frame.specs.Ends.{Print, Ends}
use Rattle.tool_frame.specs.FaultTexts.{text_fault_text, text_fault_status}
use Rattle.tool_frame.specs.FromText.{FromText}
use Rattle.tool_frame.specs.Leaves.{LeavesShelf}
use Rattle.fst_file.specs.Said.{fst_fault_text}
use Rattle.tree_inputs.specs.Files.{ReadsFst, fst_fault_status}
use Rattle.search_rules.specs.declared.options.SearchOptions.{SearchOptions}
use Rattle.search_tools.specs.declared.build_fault.BuildFault.{BuildFault}
use Rattle.search_tools.specs.declared.build_fault.BuildFault.TheVariants.{InFile, Apart}
use Rattle.search_tools.specs.Permitted.{IsPermitted, search_print}

-- what is said of a fault
abbrev pub build_fault_text : BuildFault → List ℕ
build_fault_text (InFile fault) = fst_fault_text fault
build_fault_text (Apart place) = codes "the trees leave point " ++ decimal place ++ codes " apart"

-- the status of a fault
abbrev pub build_fault_status : BuildFault → FaultStatus
build_fault_status (InFile fault) = fst_fault_status fault
build_fault_status (Apart place) = Malformed

-- What `bb` finds in a text: an answer for the points and the trees of the file that it spells; or why it spells none;
-- or the first point that all trees together don't join to the first one.
abbrev pub Builds : SearchOptions → List ℕ → Result Print BuildFault → Type 0
Builds options bytes (Ok print) =
    (file : FstValue) × (network : List Bool) × (tree : Tree SplitOn) × (note : ConcatNote)
    × SpellsFstFile bytes file × IsPermitted options file.points file.trees network tree note
    × (print ≡ search_print options.openings file.points network tree note)
Builds options bytes (Err (InFile fault)) = ReadsFst bytes (Err fault)
Builds options bytes (Err (Apart place)) =
    (file : FstValue) × SpellsFstFile bytes file
    × IsFirstApart (length file.points) file.trees (all_of file.trees) place

-- A run of `bb` under these options.
abbrev pub EndsBb : SearchOptions → Outside → Outside → ℕ → Type 0
EndsBb options before after status =
    Ends (text_fault_status build_fault_status) (text_fault_text build_fault_text) (codes "bb")
    (FromText TEXT_LIMIT (Builds options)) LeavesShelf before after status

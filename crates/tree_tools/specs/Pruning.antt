-- What `prunefst` finds, by what it read.
use Rattle.std.specs.Prelude.{ℕ, ◌≡◌, List, codes, Result, Ok, Err}
use Rattle.full_tree.specs.declared.code.Tree.{Tree}
use Rattle.fst_file.specs.Value.{FstValue}
use Rattle.fst_file.specs.Text.{SpellsFstFile}
use Rattle.fst_prune.specs.Kept.{AreKeptTrees}
use Rattle.tool_frame.specs.declared.take.TheConstants.{TEXT_LIMIT}
use Rattle.tool_frame.specs.Outside.{Outside}
use Rattle.tool_frame.specs.Ends.{Print, Ends}
use Rattle.tool_frame.specs.FaultTexts.{text_fault_text, text_fault_status}
use Rattle.tool_frame.specs.FromText.{FromText}
use Rattle.tool_frame.specs.Leaves.{LeavesShelf}
use Rattle.fst_file.specs.declared.fault.FstFault.{FstFault}
use Rattle.fst_file.specs.Said.{fst_fault_text}
use Rattle.tree_inputs.specs.Files.{ReadsFst, fst_fault_status}
use Rattle.tree_tools.specs.Generation.{fst_print}

-- What `prunefst` finds in a text: the file of the points and the kept trees of the file that it spells; or its first
-- fault.
abbrev pub PrunesFile : List ℕ → Result Print FstFault → Type 0
PrunesFile bytes (Ok print) =
    (file : FstValue) × (kept : List Tree) × SpellsFstFile bytes file × AreKeptTrees file.trees kept
    × (print ≡ fst_print file.points kept)
PrunesFile bytes (Err fault) = ReadsFst bytes (Err fault)

-- A run of `prunefst`.
abbrev pub EndsPrunefst : Outside → Outside → ℕ → Type 0
EndsPrunefst before after status =
    Ends (text_fault_status fst_fault_status) (text_fault_text fst_fault_text) (codes "prunefst")
    (FromText TEXT_LIMIT PrunesFile) LeavesShelf
    before after status

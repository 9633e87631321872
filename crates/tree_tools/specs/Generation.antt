-- What `rfst` finds, by what it read.
use Rattle.std.specs.Prelude.{ℕ, ◌≡◌, List, codes, Result, Ok, Err}
use Rattle.points_in.specs.declared.point.Point.{Point}
use Rattle.points_in.specs.Terminals.{terminals_of}
use Rattle.full_tree.specs.declared.code.Tree.{Tree}
use Rattle.fst_file.specs.Text.{fst_text}
use Rattle.fst_gen.specs.Trees.{HasMoreSets}
use Rattle.tool_frame.specs.declared.status.AnswerStatus.TheVariants.{Done}
use Rattle.tool_frame.specs.declared.take.TheConstants.{TEXT_LIMIT}
use Rattle.tool_frame.specs.Outside.{Outside}
use Rattle.tool_frame.specs.Ends.{Print, Ends}
use Rattle.tool_frame.specs.FaultTexts.{text_fault_text, text_fault_status}
use Rattle.tool_frame.specs.FromText.{FromText}
use Rattle.tool_frame.specs.Leaves.{LeavesShelf}
use Rattle.tool_frame.specs.Points.{ListsPoints, IsListFault}
use Rattle.tree_inputs.specs.declared.generation_fault.GenerationFault.{GenerationFault}
use Rattle.tree_inputs.specs.declared.generation_fault.GenerationFault.TheVariants.{List as InList, TooManyTrees}
use Rattle.tree_inputs.specs.GenerationFaults.{generation_fault_text, generation_fault_status}
use Rattle.tree_inputs.specs.Generation.{IsTreeList}

-- what is printed of points and their trees: the file that holds them
abbrev pub fst_print : List Point → List Tree → Print
fst_print points trees = record { text = fst_text (record { points = points; trees = trees }); status = Done }

-- What `rfst` finds in a text: the file of the points that it lists and of their trees of up to k members, which join
-- these points. Or it lists none, or there are more than 20,000 such trees.
abbrev pub GeneratesFile : ℕ → List ℕ → Result Print GenerationFault → Type 0
GeneratesFile k bytes (Ok print) = (ps : List Point) × (trees : List Tree) × ListsPoints bytes ps
    × IsTreeList (terminals_of ps) k trees × (print ≡ fst_print (terminals_of ps) trees)
GeneratesFile k bytes (Err (InList fault)) = IsListFault bytes fault
GeneratesFile k bytes (Err TooManyTrees) =
    (ps : List Point) × ListsPoints bytes ps × HasMoreSets (terminals_of ps) k 20000

-- A run of `rfst` for trees of up to k members.
abbrev pub EndsRfst : ℕ → Outside → Outside → ℕ → Type 0
EndsRfst k before after status =
    Ends (text_fault_status generation_fault_status) (text_fault_text generation_fault_text) (codes "rfst")
    (FromText TEXT_LIMIT (GeneratesFile k)) LeavesShelf before after status

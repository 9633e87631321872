-- What `solve` finds, by what it read.
use Rattle.std.specs.Prelude.{ℕ, ◌≡◌, Bool, List, codes, Result, Ok, Err}
use Rattle.points_in.specs.declared.point.Point.{Point}
use Rattle.points_in.specs.Terminals.{terminals_of}
use Rattle.full_tree.specs.declared.code.Tree.{Tree as FullTree}
use Rattle.fst_gen.specs.Trees.{AreTreesOf}
use Rattle.fst_prune.specs.Kept.{AreKeptTrees}
use Rattle.answer_text.specs.declared.head.ConcatNote.{ConcatNote}
use Rattle.cert_tree.specs.declared.split.SplitOn.{SplitOn}
use Rattle.cert_tree.specs.Tree.{Tree}
use Rattle.tool_frame.specs.declared.take.TheConstants.{TEXT_LIMIT}
use Rattle.tool_frame.specs.Outside.{Outside}
use Rattle.tool_frame.specs.Ends.{Print, Ends}
use Rattle.tool_frame.specs.FaultTexts.{text_fault_text, text_fault_status}
use Rattle.tool_frame.specs.FromText.{FromText}
use Rattle.tool_frame.specs.Leaves.{LeavesShelf}
use Rattle.tool_frame.specs.Points.{ListsPoints}
use Rattle.tree_inputs.specs.declared.generation_fault.GenerationFault.{GenerationFault}
use Rattle.tree_inputs.specs.GenerationFaults.{generation_fault_text, generation_fault_status}
use Rattle.tree_inputs.specs.Generation.{GeneratesFst}
use Rattle.search_rules.specs.declared.options.SearchOptions.{SearchOptions}
use Rattle.search_tools.specs.Permitted.{IsPermitted, search_print}

-- The bytes list these points, and the answer that tells the network, the tree and the note is one for them and for the
-- kept trees of their full trees of up to k members.
pub record IsSolved (options : SearchOptions) (k : ℕ) (bytes : List ℕ) (ps : List Point) (network : List Bool)
    (tree : Tree SplitOn) (note : ConcatNote) : Type 0 where
  pub generated : List FullTree
  pub trees : List FullTree
  pub points : ListsPoints bytes ps
  pub are_generated : AreTreesOf (terminals_of ps) k generated
  pub are_kept : AreKeptTrees generated trees
  pub permitted : IsPermitted options (terminals_of ps) trees network tree note

-- What `solve` finds in a text: such an answer for the points that it lists; or why it lists none, or that there are
-- more than 20,000 full trees.
abbrev pub Solves : SearchOptions → ℕ → List ℕ → Result Print GenerationFault → Type 0
Solves options k bytes (Ok print) =
    (ps : List Point) × (network : List Bool) × (tree : Tree SplitOn) × (note : ConcatNote)
    × IsSolved options k bytes ps network tree note
    × (print ≡ search_print options.openings (terminals_of ps) network tree note)
Solves options k bytes (Err fault) = GeneratesFst k bytes (Err fault)

-- A run of `solve` under these options, with full trees of up to k members.
abbrev pub EndsSolve : SearchOptions → ℕ → Outside → Outside → ℕ → Type 0
EndsSolve options k before after status =
    Ends (text_fault_status generation_fault_status) (text_fault_text generation_fault_text) (codes "solve")
    (FromText TEXT_LIMIT (Solves options k)) LeavesShelf before after status

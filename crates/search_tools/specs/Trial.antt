-- What `trial` finds, which reads nothing.
use Rattle.std.specs.Prelude.{ℕ, ◌≡◌, ◌==◌, Bool, List, length, codes, Result, Ok, Err}
use Rattle.points_in.specs.declared.point.Point.{Point}
use Rattle.points_in.specs.Terminals.{terminals_of}
use Rattle.drawn_points.specs.Drawing.{drawn_points}
use Rattle.net_graph.specs.Graph.{Graph}
use Rattle.net_graph.specs.Network.{length_of}
use Rattle.hanan_grid.specs.Grid.{hanan_grid_of}
use Rattle.full_tree.specs.declared.code.Tree.{Tree as FullTree}
use Rattle.fst_gen.specs.Trees.{AreTreesOf, HasMoreSets}
use Rattle.fst_prune.specs.Kept.{AreKeptTrees}
use Rattle.answer_text.specs.declared.head.ConcatNote.{ConcatNote}
use Rattle.cert_tree.specs.declared.split.SplitOn.{SplitOn}
use Rattle.cert_tree.specs.Tree.{Tree}
use Rattle.cert_tree.specs.Preorder.{split_count}
use Rattle.tool_frame.specs.Outside.{Outside}
use Rattle.tool_frame.specs.Ends.{Print, Ends}
use Rattle.tool_frame.specs.Leaves.{LeavesAll}
use Rattle.tree_inputs.specs.declared.generation_fault.GenerationFault.{GenerationFault}
use Rattle.tree_inputs.specs.declared.generation_fault.GenerationFault.TheVariants.{List as InList, TooManyTrees}
use Rattle.tree_inputs.specs.GenerationFaults.{generation_fault_text, generation_fault_status}
use Rattle.tree_inputs.specs.Generation.{most_members}
use Rattle.search_rules.specs.Options.{usual_options}
use Rattle.graph_search.specs.Searched.{bound_of}
use Rattle.search_tools.specs.Permitted.{IsPermitted}
use Rattle.search_tools.specs.declared.trial_line.TrialLine.{TrialLine}
use Rattle.search_tools.specs.TrialLine.{trial_print}

-- the distinct ones of the n points of a seed
abbrev pub drawn_terminals : ℕ → ℕ → List Point
drawn_terminals n seed = terminals_of (drawn_points n seed)

-- the grid of these
abbrev pub drawn_grid : ℕ → ℕ → Graph
drawn_grid n seed = hanan_grid_of (drawn_terminals n seed)

-- A network of this grid and a tree of cuts, which an answer may tell for the points and for the kept trees of their
-- full trees, where no word asks for anything else. The text that tells it is accepted (`IsPermitted`).
pub record IsTried (n seed : ℕ) (network : List Bool) (tree : Tree SplitOn) : Type 0 where
  pub generated : List FullTree
  pub trees : List FullTree
  pub note : ConcatNote
  pub are_generated : AreTreesOf (drawn_terminals n seed) most_members generated
  pub are_kept : AreKeptTrees generated trees
  pub permitted : IsPermitted usual_options (drawn_terminals n seed) trees network tree note

-- what is told of them
abbrev pub line_for : ℕ → ℕ → List Bool → Tree SplitOn → TrialLine
line_for n seed network tree = record {
  count = n;
  seed = seed;
  points = length (drawn_terminals n seed);
  length = length_of (drawn_grid n seed) network;
  bound = bound_of (drawn_grid n seed) network tree;
  optimal = bound_of (drawn_grid n seed) network tree == length_of (drawn_grid n seed) network;
  splits = split_count tree;
}

-- The line of such an answer; or that the points have more than 20,000 full trees.
abbrev pub Tries : ℕ → ℕ → Result Print GenerationFault → Type 0
Tries n seed (Ok print) = (network : List Bool) × (tree : Tree SplitOn) × IsTried n seed network tree
    × (print ≡ trial_print (line_for n seed network tree))
Tries n seed (Err (InList fault)) = ⊥
Tries n seed (Err TooManyTrees) = HasMoreSets (drawn_terminals n seed) most_members 20000

-- A run of `trial`.
abbrev pub EndsTrial : ℕ → ℕ → Outside → Outside → ℕ → Type 0
EndsTrial n seed before after status =
    Ends generation_fault_status generation_fault_text (codes "trial") (λ _ _. Tries n seed) LeavesAll
    before after status

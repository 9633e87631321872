-- The steps of the tools that search, before they write, each with the cause of its refusals.
use Rattle.std.specs.Prelude.{◌≡◌, ◌<◌, ◌≤◌, ◌^◌, ℕ, List, Bool, true, false, length, Result, Ok, Err}
use Rattle.points_in.specs.declared.point.Point.{Point}
use Rattle.hanan_grid.specs.Grid.{hanan_grid_of}
use Rattle.net_graph.specs.Graph.{Graph}
use Rattle.net_graph.specs.Network.{length_of}
use Rattle.full_tree.specs.declared.code.Tree.{Tree as FullTree}
use Rattle.fst_file.specs.Value.{FstValue}
use Rattle.fst_gen.specs.Trees.{AreTreesOf, HasMoreSets}
use Rattle.fst_prune.specs.Kept.{AreKeptTrees}
use Rattle.concatenation.specs.Concatenation.{all_of}
use Rattle.fst_concat.specs.declared.chosen.ChosenKind.{ChosenKind}
use Rattle.fst_concat.specs.declared.chosen.ChosenKind.TheVariants.{Least, Spent}
use Rattle.fst_concat.specs.Chosen.{IsFirstApart}
use Rattle.branch.specs.States.{IsNetworkOf}
use Rattle.answer_text.specs.Text.{answer_text}
use Rattle.answer_text.specs.declared.form.Form.TheVariants as form
use Rattle.answer_text.specs.Spelling.{SpellsAnswer}
use Rattle.answer_text.specs.Answers.{IsAnswerOn, value_of}
use Rattle.tree_inputs.specs.declared.generation_fault.GenerationFault.{GenerationFault}
use Rattle.tree_inputs.specs.declared.generation_fault.GenerationFault.TheVariants.{List as InList, TooManyTrees}
use Rattle.search_rules.specs.declared.options.SearchOptions.{SearchOptions}
use Rattle.search_tools.specs.declared.network.Found.{Found}
use Rattle.graph_search.specs.declared.solution.Solution.{Solution}
use Rattle.graph_search.specs.Kinds.{kind_of}
use Rattle.graph_search.specs.Searched.{IsSearched, value_on}
use Rattle.graph_search.specs.Answering.{head_with}
use Rattle.search_tools.specs.Permitted.{IsConcatNote}

-- whether the kind says that no total is smaller
abbrev pub is_least : ChosenKind → Bool
is_least Least = true
is_least (Spent trail) = false

-- A network of the grid of points, no longer than a concatenation of their trees, and what is told of these.
pub record IsMadeOf (allowed : ℕ) (ps : List Point) (trees : List FullTree) (found : Found) : Type 0 where
  pub network : IsNetworkOf (hanan_grid_of ps) found.network
  pub concat : IsConcatNote allowed (length ps) trees found.note
  pub short : length_of (hanan_grid_of ps) found.network ≤ found.note.total

-- Such a network; or the first terminal that all trees together leave apart.
abbrev pub FindsNetwork : ℕ → List Point → List FullTree → Result Found ℕ → Type 0
FindsNetwork allowed ps trees (Ok found) = IsMadeOf allowed ps trees found
FindsNetwork allowed ps trees (Err place) = IsFirstApart (length ps) trees (all_of trees) place

-- A network that may stand in place of the one that was found: it is no longer, and what is told stays.
pub record IsNoLonger (g : Graph) (found later : Found) : Type 0 where
  pub network : IsNetworkOf g later.network
  pub short : length_of g later.network ≤ length_of g found.network
  pub note : later.note ≡ found.note

-- the text of an answer for its grid
abbrev pub solution_text : Solution (List Point) → List ℕ
solution_text s = answer_text (value_of s.instance s.answer)

-- the answer can be written
abbrev pub IsPrintable : Solution (List Point) → Type 0
IsPrintable s = IsAnswerOn (hanan_grid_of s.instance) s.answer

-- The answer tells a network of the grid and a tree of cuts, as a search from a network ends with them that is no
-- longer than a concatenation of these trees. Its text spells it, and has fewer than 2^32 bytes.
pub record IsFor (options : SearchOptions) (ps : List Point) (trees : List FullTree) (s : Solution (List Point))
    : Type 0 where
  pub grid : s.instance ≡ ps
  pub searched :
      IsSearched (hanan_grid_of ps) (kind_of options.split) options.openings s.answer.head.concat.total s.answer.network
      s.answer.tree
  pub concat : IsConcatNote options.concat (length ps) trees s.answer.head.concat
  pub short : length_of (hanan_grid_of ps) s.answer.network ≤ s.answer.head.concat.total
  pub head : s.answer.head
      ≡ head_with options.openings (length_of (hanan_grid_of ps) s.answer.network)
      (value_on (hanan_grid_of ps) s.answer.tree) s.answer.head.concat
  pub fits : IsPrintable s
  pub spelled : SpellsAnswer (form.OnGrid (hanan_grid_of ps).vertices) (solution_text s) (value_of s.instance s.answer)
  pub few_bytes : length (solution_text s) < 2 ^ 32

-- Such an answer for a file of trees; or the first point that all trees together leave apart.
abbrev pub SolvesFile : SearchOptions → FstValue → Result (Solution (List Point)) ℕ → Type 0
SolvesFile options file (Ok s) = IsFor options file.points file.trees s
SolvesFile options file (Err place) = IsFirstApart (length file.points) file.trees (all_of file.trees) place

-- Such an answer for the kept ones of a file's trees.
abbrev pub SolvesPruned : SearchOptions → FstValue → Solution (List Point) → Type 0
SolvesPruned options file s =
    (trees : List FullTree) × AreKeptTrees file.trees trees × IsFor options file.points trees s

-- What is found of terminals: an answer for them and for the kept ones of their trees of up to k members; or there are
-- more than 20,000 of these.
abbrev pub SolvesPoints : SearchOptions → ℕ → List Point → Result (Solution (List Point)) GenerationFault → Type 0
SolvesPoints options k ps (Ok s) =
    (generated : List FullTree) × (trees : List FullTree) × AreTreesOf ps k generated × AreKeptTrees generated trees
    × IsFor options ps trees s
SolvesPoints options k ps (Err (InList fault)) = ⊥
SolvesPoints options k ps (Err TooManyTrees) = HasMoreSets ps k 20000

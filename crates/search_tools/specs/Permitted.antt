-- The answers that a search may print for points and a list of their full trees.
use Rattle.std.specs.Prelude.{ℕ, ◌≡◌, ◌<◌, ◌≤◌, ◌^◌, Bool, true, false, List, length}
use Rattle.points_in.specs.declared.point.Point.{Point}
use Rattle.net_graph.specs.Network.{length_of}
use Rattle.hanan_grid.specs.Grid.{hanan_grid_of}
use Rattle.full_tree.specs.declared.code.Tree.{Tree as FullTree}
use Rattle.concatenation.specs.Concatenation.{IsConcatenation, IsLeastTotal, total_of}
use Rattle.concatenation.specs.Trails.{Trail, IsSpentTrail, splits_of}
use Rattle.fst_concat.specs.Chosen.{IsUpToPairs}
use Rattle.answer_text.specs.declared.head.ConcatNote.{ConcatNote}
use Rattle.answer_text.specs.Text.{answer_text}
use Rattle.cert_tree.specs.declared.split.SplitOn.{SplitOn}
use Rattle.cert_tree.specs.Tree.{Tree}
use Rattle.cert_check.specs.Accepted.{IsAccepted}
use Rattle.tool_frame.specs.Ends.{Print}
use Rattle.search_rules.specs.declared.options.SearchOptions.{SearchOptions}
use Rattle.graph_search.specs.Kinds.{kind_of}
use Rattle.graph_search.specs.Searched.{IsSearched, bound_of}
use Rattle.graph_search.specs.Status.{status_of_bound}
use Rattle.search_tools.specs.Solution.{solution}

-- What an answer tells of the concatenations of a list of trees of n terminals is true: some concatenation has the
-- total, which is at most that of a least joining by the list's pairs, where these join all. Where it says least no
-- concatenation has a smaller total; else the search for one was spent, as a trail of all its allowed splits shows.
pub record IsConcatNote (allowed n : ℕ) (trees : List FullTree) (note : ConcatNote) : Type 0 where
  pub set : List Bool
  pub joins : IsConcatenation n trees set
  pub total : note.total ≡ total_of trees set
  pub pairs : IsUpToPairs n trees note.total
  pub least : note.least ≡ true → IsLeastTotal n trees note.total
  pub spent : note.least ≡ false →
      (trail : Trail) × (splits_of trail ≡ allowed) × IsSpentTrail n trees note.total trail

-- the text of the answer
abbrev pub search_text : ℕ → List Point → List Bool → Tree SplitOn → ConcatNote → List ℕ
search_text openings ps network tree note = answer_text (solution openings ps network tree note)

-- A network of the grid of the points, a tree of cuts and a note on the full trees that an answer may tell under these
-- options. The text that tells all of this is accepted as an answer for the points. The tree has at most as many splits
-- as openings are allowed, and exactly as many where its value is below the network's length; each of its leaves has
-- few cuts, and is maximal where its value is below the length. The note is true of the full trees, and the network is
-- no longer than its total. Network and tree end a run of openings whose first network is no longer than this total;
-- behind splits on vertices they are plain ones of the kind that the rule for splits asks for. The text has fewer than
-- 2^32 bytes.
pub record IsPermitted (options : SearchOptions) (ps : List Point) (trees : List FullTree) (network : List Bool)
    (tree : Tree SplitOn) (note : ConcatNote) : Type 0 where
  pub accepted : IsAccepted ps (search_text options.openings ps network tree note)
  pub searched : IsSearched (hanan_grid_of ps) (kind_of options.split) options.openings note.total network tree
  pub concat : IsConcatNote options.concat (length ps) trees note
  pub short : length_of (hanan_grid_of ps) network ≤ note.total
  pub few_bytes : length (search_text options.openings ps network tree note) < 2 ^ 32

-- what is printed of them
abbrev pub search_print : ℕ → List Point → List Bool → Tree SplitOn → ConcatNote → Print
search_print openings ps network tree note = record {
  text = search_text openings ps network tree note;
  status = status_of_bound (bound_of (hanan_grid_of ps) network tree) (length_of (hanan_grid_of ps) network);
}

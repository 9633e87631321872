-- What follows of an answer that was printed with its status.
use Rattle.std.specs.Prelude.{ℕ, ◌≡◌, Bool, List}
use Rattle.rst_outside.specs.Sink.{Appended}
use Rattle.points_in.specs.declared.point.Point.{Point}
use Rattle.net_graph.specs.Network.{length_of}
use Rattle.hanan_grid.specs.Grid.{hanan_grid_of}
use Rattle.full_tree.specs.declared.code.Tree.{Tree as FullTree}
use Rattle.answer_text.specs.declared.head.ConcatNote.{ConcatNote}
use Rattle.cert_tree.specs.declared.split.SplitOn.{SplitOn}
use Rattle.cert_tree.specs.Tree.{Tree}
use Rattle.tool_frame.specs.Statuses.{answer_code}
use Rattle.tool_frame.specs.Outside.{Outside}
use Rattle.search_rules.specs.declared.options.SearchOptions.{SearchOptions}
use Rattle.graph_search.specs.Kinds.{kind_of}
use Rattle.graph_search.specs.Searched.{bound_of}
use Rattle.graph_search.specs.Status.{status_of_bound}
use Rattle.graph_search.specs.TruthLaws.{ends_truly}
use Rattle.search_tools.specs.Permitted.{IsPermitted, search_text}
use Rattle.search_tools.specs.Truth.{SearchesTruly}

-- An answer that may be printed and was, with its status, is true.
pub searches_truly : (options : SearchOptions) (ps : List Point) (trees : List FullTree) (network : List Bool)
    (tree : Tree SplitOn) (note : ConcatNote) (before after : Outside) (status : ℕ) →
    IsPermitted options ps trees network tree note →
    Appended before.written.out.taken (search_text options.openings ps network tree note) after.written.out.taken →
    (let g = hanan_grid_of ps in
    status ≡ answer_code (status_of_bound (bound_of g network tree) (length_of g network))) →
    SearchesTruly options ps trees before after status
searches_truly options ps trees network tree note before after status permitted appended ends = record {
  network = network;
  tree = tree;
  note = note;
  permitted = permitted;
  printed = appended;
  ends =
      ends_truly (hanan_grid_of ps) (kind_of options.split) options.openings note.total network tree status
      permitted.searched ends;
}

-- What is true where a search printed an answer.
use Rattle.std.specs.Prelude.{ℕ, Bool, List}
use Rattle.rst_outside.specs.Sink.{Appended}
use Rattle.points_in.specs.declared.point.Point.{Point}
use Rattle.hanan_grid.specs.Grid.{hanan_grid_of}
use Rattle.full_tree.specs.declared.code.Tree.{Tree as FullTree}
use Rattle.answer_text.specs.declared.head.ConcatNote.{ConcatNote}
use Rattle.cert_tree.specs.declared.split.SplitOn.{SplitOn}
use Rattle.cert_tree.specs.Tree.{Tree}
use Rattle.tool_frame.specs.Outside.{Outside}
use Rattle.search_rules.specs.declared.options.SearchOptions.{SearchOptions}
use Rattle.graph_search.specs.Truth.{EndsTruly}
use Rattle.search_tools.specs.Permitted.{IsPermitted, search_text}

-- `out` gained an answer that may be printed for the points and the trees under these options. No network of the
-- points' grid is shorter than its bound, and what the status tells of it is true (`EndsTruly`).
pub record SearchesTruly (options : SearchOptions) (ps : List Point) (trees : List FullTree) (before after : Outside)
    (status : ℕ) : Type 0 where
  pub network : List Bool
  pub tree : Tree SplitOn
  pub note : ConcatNote
  pub permitted : IsPermitted options ps trees network tree note
  pub printed :
      Appended before.written.out.taken (search_text options.openings ps network tree note) after.written.out.taken
  pub ends : EndsTruly (hanan_grid_of ps) options.openings note.total network tree status

-- What is true where `trial` printed its line.
use Rattle.std.specs.Prelude.{ℕ, Bool, List}
use Rattle.rst_outside.specs.Sink.{Appended}
use Rattle.cert_tree.specs.declared.split.SplitOn.{SplitOn}
use Rattle.cert_tree.specs.Tree.{Tree}
use Rattle.tool_frame.specs.Outside.{Outside}
use Rattle.search_rules.specs.Options.{usual_options}
use Rattle.graph_search.specs.Truth.{EndsTruly}
use Rattle.search_tools.specs.TrialLine.{trial_text}
use Rattle.search_tools.specs.Trial.{IsTried, drawn_grid, line_for}

-- `out` gained the line of an answer that may be told of the drawn points, and that is accepted for them. No network of
-- their grid is shorter than its bound, and what the status tells of it is true (`EndsTruly`).
pub record TriesTruly (n seed : ℕ) (before after : Outside) (status : ℕ) : Type 0 where
  pub network : List Bool
  pub tree : Tree SplitOn
  pub tried : IsTried n seed network tree
  pub printed : Appended before.written.out.taken (trial_text (line_for n seed network tree)) after.written.out.taken
  pub ends : EndsTruly (drawn_grid n seed) usual_options.openings tried.note.total network tree status

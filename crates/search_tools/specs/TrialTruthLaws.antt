-- What follows of a line that was printed with its status.
use Rattle.std.specs.Prelude.{ℕ, ◌≡◌, Bool, List}
use Rattle.rst_outside.specs.Sink.{Appended}
use Rattle.cert_tree.specs.declared.split.SplitOn.{SplitOn}
use Rattle.cert_tree.specs.Tree.{Tree}
use Rattle.tool_frame.specs.Statuses.{answer_code}
use Rattle.tool_frame.specs.Outside.{Outside}
use Rattle.search_rules.specs.Options.{usual_options}
use Rattle.graph_search.specs.Kinds.{kind_of}
use Rattle.graph_search.specs.TruthLaws.{ends_truly}
use Rattle.search_tools.specs.TrialLine.{trial_text, trial_status}
use Rattle.search_tools.specs.Trial.{IsTried, drawn_grid, line_for}
use Rattle.search_tools.specs.TrialTruth.{TriesTruly}

-- A line that may be told and was printed, with its status, is true.
pub tries_truly : (n seed : ℕ) (network : List Bool) (tree : Tree SplitOn) (before after : Outside) (status : ℕ) →
    IsTried n seed network tree →
    Appended before.written.out.taken (trial_text (line_for n seed network tree)) after.written.out.taken →
    status ≡ answer_code (trial_status (line_for n seed network tree)) → TriesTruly n seed before after status
tries_truly n seed network tree before after status tried appended ends = record {
  network = network;
  tree = tree;
  tried = tried;
  printed = appended;
  ends =
      ends_truly (drawn_grid n seed) (kind_of usual_options.split) usual_options.openings tried.note.total network tree
      status tried.permitted.searched ends;
}

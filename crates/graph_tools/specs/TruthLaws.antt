-- What follows of an answer in a graph that was printed, and of a verdict that was told.
use Rattle.std.proofs.Common.{ℕ, ◌≡◌, ◌≤◌, ◌^◌, Bool, List, length, arith}
use Rattle.rst_outside.specs.Sink.{Appended}
use Rattle.net_graph.specs.Graph.{Graph, total_of}
use Rattle.net_graph.specs.Network.{length_of}
use Rattle.stp_format.specs.Value.{StpValue}
use Rattle.cert_tree.specs.declared.split.SplitOn.{SplitOn}
use Rattle.cert_tree.specs.Tree.{Tree}
use Rattle.cert_check.specs.declared.verdict.Finished.{Finished}
use Rattle.cert_check.specs.declared.verdict.Ruling.{Ruling}
use Rattle.cert_check.specs.Named.{in_graph}
use Rattle.cert_check.specs.Rulings.{verdict_of}
use Rattle.graph_solve.specs.Task.{graph_of_stp}
use Rattle.tool_frame.specs.Statuses.{answer_code}
use Rattle.tool_frame.specs.Outside.{Outside}
use Rattle.verdict_line.specs.declared.counting.Counting.TheVariants.{FromOne}
use Rattle.verdict_line.specs.TruthLaws.{judges_truly}
use Rattle.verdict_line.specs.Verdicts.{line_text_by, ruling_status}
use Rattle.graph_search.specs.Kinds.{kind_of}
use Rattle.graph_search.specs.Searched.{bound_of}
use Rattle.graph_search.specs.Status.{status_of_bound}
use Rattle.graph_search.specs.TruthLaws.{ends_truly}
use Rattle.search_rules.specs.declared.options.GraphOptions.{GraphOptions}
use Rattle.graph_tools.specs.Check.{IsGraphChecked}
use Rattle.graph_tools.specs.Solution.{IsPermittedGraphAnswer, graph_text}
use Rattle.graph_tools.specs.Truth.{ChecksGraphTruly, SolvesTruly}

-- An answer that may be printed and was, with its status, is true.
pub solves_truly : (options : GraphOptions) (g : Graph) (network : List Bool) (tree : Tree SplitOn)
    (before after : Outside) (status : ℕ) → IsPermittedGraphAnswer options g network tree →
    Appended before.written.out.taken (graph_text options.openings g network tree) after.written.out.taken →
    status ≡ answer_code (status_of_bound (bound_of g network tree) (length_of g network)) →
    SolvesTruly options g before after status
solves_truly options g network tree before after status permitted appended ends = record {
  network = network;
  tree = tree;
  permitted = permitted;
  printed = appended;
  ends = ends_truly g (kind_of options.split) options.openings (total_of g) network tree status permitted.searched ends;
}

-- Where the line of the verdict was written, what it tells is true.
pub checks_graph_truly : (name : List ℕ) (before after : Outside) (file : StpValue) (bytes : List ℕ) (f : Finished)
    (ruling : Ruling) (status : ℕ) → f.verdict ≡ verdict_of ruling →
    IsGraphChecked name before.read after.read file bytes f →
    Appended before.written.out.taken (line_text_by FromOne ruling) after.written.out.taken →
    status ≡ answer_code (ruling_status ruling) → ChecksGraphTruly name before after status
checks_graph_truly name before after file bytes f ruling status is checked told ends =
    let within : length bytes ≤ 2 ^ 28 = checked.input.within in (
      file,
      bytes,
      checked.task,
      checked.input.came,
      judges_truly (in_graph (graph_of_stp file)) bytes f FromOne ruling before.written.out after.written.out status is
          (omega (arith, within)) checked.judges told ends,
    )

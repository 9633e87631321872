-- What is true where `graph` printed an answer, and where `checkgraph` told a verdict.
use Rattle.std.specs.Prelude.{ℕ, Bool, List}
use Rattle.rst_outside.specs.Source.{CameToTheEnd}
use Rattle.rst_outside.specs.Sink.{Appended}
use Rattle.net_graph.specs.Graph.{Graph, total_of}
use Rattle.stp_format.specs.Value.{StpValue}
use Rattle.cert_tree.specs.declared.split.SplitOn.{SplitOn}
use Rattle.cert_tree.specs.Tree.{Tree}
use Rattle.cert_check.specs.Named.{in_graph}
use Rattle.graph_solve.specs.Task.{graph_of_stp}
use Rattle.tool_frame.specs.Outside.{Outside}
use Rattle.verdict_line.specs.Truth.{JudgesTruly}
use Rattle.graph_search.specs.Truth.{EndsTruly}
use Rattle.search_rules.specs.declared.options.GraphOptions.{GraphOptions}
use Rattle.graph_tools.specs.Check.{FileIsTask}
use Rattle.graph_tools.specs.Solution.{IsPermittedGraphAnswer, graph_text}

-- `out` gained an answer that may be printed in the graph under these options. No network of the graph is
-- shorter than its bound, and what the status tells of it is true (`EndsTruly`).
pub record SolvesTruly (options : GraphOptions) (g : Graph) (before after : Outside) (status : ℕ) : Type 0 where
  pub network : List Bool
  pub tree : Tree SplitOn
  pub permitted : IsPermittedGraphAnswer options g network tree
  pub printed : Appended before.written.out.taken (graph_text options.openings g network tree) after.written.out.taken
  pub ends : EndsTruly g options.openings (total_of g) network tree status

-- The file is a Steiner problem and the input was read to its end; the status is 0 exactly where its bytes are accepted
-- as an answer in the file's graph, and then `out` gained the line that says so, which is true of the graph.
abbrev pub ChecksGraphTruly : List ℕ → Outside → Outside → ℕ → Type 0
ChecksGraphTruly name before after status =
    (file : StpValue) × (bytes : List ℕ) × FileIsTask before.read.shelf name file
    × CameToTheEnd before.read.input.rest bytes after.read.input.rest
    × JudgesTruly (in_graph (graph_of_stp file)) bytes before.written.out after.written.out status

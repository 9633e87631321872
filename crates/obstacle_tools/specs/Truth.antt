-- What is true where `obstacles` printed.
use Rattle.std.specs.Prelude.{ℕ, ◌≡◌, Bool, true, false, List, Some, slice_get}
use Rattle.rst_outside.specs.Sink.{Appended}
use Rattle.rst_outside.specs.Source.{CameToTheEnd}
use Rattle.net_graph.specs.declared.edge.Edge.{Edge}
use Rattle.net_graph.specs.Flags.{has}
use Rattle.obstacles_in.specs.Obstacles.{ObstaclesValue}
use Rattle.obstacle_grid.specs.Crossing.{CrossesNone}
use Rattle.obstacle_grid.specs.Grid.{obstacle_graph_of}
use Rattle.obstacle_grid.specs.ReadBack.{IsProblemOf}
use Rattle.obstacle_grid.specs.Text.{graph_stp_text}
use Rattle.tool_frame.specs.Outside.{Outside}
use Rattle.search_rules.specs.declared.options.GraphOptions.{GraphOptions}
use Rattle.graph_tools.specs.Truth.{SolvesTruly}
use Rattle.obstacle_tools.specs.Reading.{IsTaskText}

-- No edge of the set crosses the interior of a box.
abbrev pub AvoidsBoxes : ObstaclesValue → List Bool → Type 0
AvoidsBoxes o network = (n : ℕ) (e : Edge) → has network n ≡ true → slice_get (obstacle_graph_of o).edges n ≡ Some e →
    CrossesNone o e

-- the text that `obstacles --stp` prints of points and boxes is an STP file, a Steiner problem, and its graph is theirs
abbrev pub IsPrintedGraph : ObstaclesValue → Type 0
IsPrintedGraph o = IsProblemOf (graph_stp_text (obstacle_graph_of o)) (obstacle_graph_of o)

-- `out` gained an answer that may be printed in the graph of the points and boxes, and what it says is true of that
-- graph (`SolvesTruly`), which is the one that `--stp` prints: so the answer is accepted beside that file. Its network
-- crosses the interior of no box.
pub record SolvesAroundTruly (o : ObstaclesValue) (options : GraphOptions) (before after : Outside) (status : ℕ)
    : Type 0 where
  pub solves : SolvesTruly options (obstacle_graph_of o) before after status
  pub avoids : AvoidsBoxes o solves.network
  pub stp : IsPrintedGraph o

-- `out` gained the graph of the points and boxes as an STP file, which is read back as this graph, and the status is 0.
pub record WritesGraphTruly (o : ObstaclesValue) (before after : Outside) (status : ℕ) : Type 0 where
  pub ends : status ≡ 0
  pub printed : Appended before.written.out.taken (graph_stp_text (obstacle_graph_of o)) after.written.out.taken
  pub stp : IsPrintedGraph o

-- What was printed of points and boxes, with or without the flag, is true.
abbrev pub PrintsTruly : Bool → GraphOptions → ObstaclesValue → Outside → Outside → ℕ → Type 0
PrintsTruly true options o before after status = WritesGraphTruly o before after status
PrintsTruly false options o before after status = SolvesAroundTruly o options before after status

-- The input was read to its end, it spells points and boxes that are a Steiner problem, and what was printed of them is
-- true.
abbrev pub ObstaclesTruly : Bool → GraphOptions → Outside → Outside → ℕ → Type 0
ObstaclesTruly stp options before after status =
    (bytes : List ℕ) × (o : ObstaclesValue)
    × CameToTheEnd before.read.input.rest bytes after.read.input.rest
    × IsTaskText bytes o
    × PrintsTruly stp options o before after status

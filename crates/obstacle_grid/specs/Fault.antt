-- What keeps points and boxes from having a graph of the suite. Faults are judged in the order of the cases below.
use Rattle.std.specs.Prelude.{◌≡◌, ◌<◌, ◌≤◌, ◌^◌, Result, Err}
use Rattle.net_graph.specs.Graph.{Graph, total_of}
use Rattle.net_graph.specs.Network.{IsNetwork, IsFirstApart}
use Rattle.graph_solve.specs.Task.{all_edges}
use Rattle.obstacles_in.specs.Obstacles.{ObstaclesValue}
use Rattle.obstacle_grid.specs.Grid.{obstacle_graph_of}
use Rattle.obstacle_grid.specs.declared.fault.ObstacleTaskFault.{ObstacleTaskFault}
use Rattle.obstacle_grid.specs.declared.fault.ObstacleTaskFault.TheVariants.{TooLong, Apart, Memory}

-- The points and boxes have none of the faults: all allowed edges together join the points.
pub record IsTask (o : ObstaclesValue) : Type 0 where
  pub total : total_of (obstacle_graph_of o) < 2 ^ 63
  pub joined : IsNetwork (obstacle_graph_of o) (all_edges (obstacle_graph_of o))

-- This fault is the first one; want of memory has no cause in the points and boxes. A point is named by its place,
-- which is that of its vertex among the terminals.
abbrev pub IsFirstFault : ObstaclesValue → ObstacleTaskFault → Type 0
IsFirstFault o (TooLong total) = (total ≡ total_of (obstacle_graph_of o)) × (2 ^ 63 ≤ total)
IsFirstFault o (Apart place) =
    (total_of (obstacle_graph_of o) < 2 ^ 63)
    × IsFirstApart (obstacle_graph_of o) (all_edges (obstacle_graph_of o)) place
IsFirstFault o (Memory error) = Unit {0}

-- the points and boxes have this fault, and it is the first; want of memory is none of theirs
abbrev pub HasFirstFault : ObstaclesValue → ObstacleTaskFault → Type 0
HasFirstFault o (Memory error) = ⊥
HasFirstFault o fault = IsFirstFault o fault

-- what was answered is this, unless memory ran out
abbrev pub Answers : Result Graph ObstacleTaskFault → Result Graph ObstacleTaskFault → Type 0
Answers (Err (Memory error)) outcome = Unit {0}
Answers result outcome = result ≡ outcome

-- The laws of edges and boxes.
use Rattle.std.specs.Prelude.{IsTrue, ◌↔◌, All, Contains}
use Rattle.points_in.specs.declared.point.Point.{Point}
use Rattle.net_graph.specs.declared.edge.Edge.{Edge}
use Rattle.obstacles_in.specs.declared.rectangle.Rectangle.{Rectangle}
use Rattle.obstacles_in.specs.Obstacles.{ObstaclesValue}
use Rattle.obstacle_grid.specs.Blocked.{CrossesInterior, IsStraight, is_blocked_by}
use Rattle.obstacle_grid.specs.Grid.{obstacle_grid_of, obstacle_graph_of, point_of}

-- a box blocks exactly the segments that cross its interior
abbrev pub BlockingIsCrossing : Type 0
BlockingIsCrossing = (b : Rectangle) (p q : Point) → IsStraight p q
    → IsTrue (is_blocked_by b p q) ↔ CrossesInterior b p q

-- the edge runs along an axis, from its first end on
abbrev pub RunsStraight : ObstaclesValue → Edge → Type 0
RunsStraight o e = IsStraight (point_of o e.a) (point_of o e.b)

-- all edges of the grid do
abbrev pub EdgesRunStraight : Type 0
EdgesRunStraight = (o : ObstaclesValue) → All (RunsStraight o) (obstacle_grid_of o).edges

-- the edge crosses the interior of no box
abbrev pub CrossesNone : ObstaclesValue → Edge → Type 0
CrossesNone o e = (b : Rectangle) → Contains o.boxes b → ¬ CrossesInterior b (point_of o e.a) (point_of o e.b)

-- no edge of the graph crosses one
abbrev pub NoEdgeCrosses : Type 0
NoEdgeCrosses = (o : ObstaclesValue) → All (CrossesNone o) (obstacle_graph_of o).edges

-- of the edges of the grid the graph has each one that crosses no box
abbrev pub OthersAreLeft : Type 0
OthersAreLeft = (o : ObstaclesValue) (e : Edge) → Contains (obstacle_grid_of o).edges e → CrossesNone o e
    → Contains (obstacle_graph_of o).edges e

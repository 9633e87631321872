-- The grid of points and boxes, and its graph without the edges that a box blocks.
use Rattle.std.specs.Prelude.{ℕ, Bool, not, filter}
use Rattle.std.specs.List.{list_any}
use Rattle.points_in.specs.declared.point.Point.{Point}
use Rattle.net_graph.specs.declared.edge.Edge.{Edge}
use Rattle.net_graph.specs.Graph.{Graph, graph_of}
use Rattle.hanan_grid.specs.Grid.{graph_of_lines}
use Rattle.hanan_grid.specs.Names.{point_of_vertex}
use Rattle.obstacles_in.specs.Obstacles.{ObstaclesValue, columns_of, rows_of}
use Rattle.obstacle_grid.specs.Blocked.{is_blocked_by}

-- Hanan's grid with the sides of all boxes added to the lines. The points are its terminals.
abbrev pub obstacle_grid_of : ObstaclesValue → Graph
obstacle_grid_of o = graph_of_lines (columns_of o) (rows_of o) o.points

-- the point of a vertex
abbrev pub point_of : ObstaclesValue → ℕ → Point
point_of o v = point_of_vertex (columns_of o) (rows_of o) v

-- some box blocks the edge
abbrev pub is_blocked : ObstaclesValue → Edge → Bool
is_blocked o e = list_any (λ b. is_blocked_by b (point_of o e.a) (point_of o e.b)) o.boxes

-- no box does
abbrev pub is_allowed : ObstaclesValue → Edge → Bool
is_allowed o e = not (is_blocked o e)

-- All vertices of the grid, the edges that no box blocks in their order, and the points in their order as terminals.
abbrev pub obstacle_graph_of : ObstaclesValue → Graph
obstacle_graph_of o = graph_of (obstacle_grid_of o).vertices (filter (is_allowed o) (obstacle_grid_of o).edges)
    (obstacle_grid_of o).terminals

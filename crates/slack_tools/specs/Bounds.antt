-- A bound for each edge of a graph.
use Rattle.std.specs.Prelude.{ℕ, ◌≡◌, ◌<◌, ◌≤◌, List, length, slice_index}
use Rattle.net_graph.specs.Graph.{Graph, total_of}
use Rattle.edge_slack.specs.EdgeBound.{IsEdgeBound, IsLowerBoundWith}

-- The number is an edge bound of the edge. So no network whose root part holds the edge is shorter, and it is at most
-- the sum of all edge lengths.
pub record BoundsEdge (g : Graph) (e bound : ℕ) : Type 0 where
  pub value : IsEdgeBound g e bound
  pub least : IsLowerBoundWith g e bound
  pub within : bound ≤ total_of g

-- one for each edge, by its number
pub record AreEdgeBounds (g : Graph) (bounds : List ℕ) : Type 0 where
  pub count : length bounds ≡ length g.edges
  pub each : (e : ℕ) → e < length g.edges → BoundsEdge g e (slice_index bounds e)

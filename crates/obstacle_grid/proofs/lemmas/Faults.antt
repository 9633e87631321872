-- The faults that the graph of points and boxes may have, and what its edges join.
use Rattle.std.specs.Prelude.{ℕ, ◌*◌, ◌≡◌, ◌<◌, ◌≤◌, List, length, filter, flat_map, get_or}
use Rattle.std.proofs.Common.{refl, arith}
use Rattle.std.proofs.lemmas.List.{length-map, get_or_append_left}
use Rattle.std.proofs.lemmas.List.Elements.{All-filter, All-map}
use Rattle.hanan_grid.specs.FaultLaws.{known_fault}
use Rattle.points_in.specs.declared.point.Point.{Point}
use Rattle.net_graph.specs.declared.edge.Edge.{Edge}
use Rattle.net_graph.specs.Graph.{Graph, graph_of, HasEndsBelow}
use Rattle.net_graph.specs.Fault.{IsFirstFault, HasSoundParts}
use Rattle.net_graph.specs.declared.graph.GraphFault.{GraphFault}
use Rattle.hanan_grid.specs.Grid.{vertex_of}
use Rattle.hanan_grid.specs.Fault.{IsTotalOrMemory}
use Rattle.hanan_grid.specs.GridLaws.{ends_below, lengths_positive, vertex_of-below, IsRising-xs_of, IsRising-ys_of}
use Rattle.obstacles_in.specs.Obstacles.{ObstaclesValue, AreObstacles, corners_of, marks_of, columns_of, rows_of}
use Rattle.obstacle_grid.specs.Grid.{obstacle_grid_of, is_allowed, obstacle_graph_of}
use Rattle.obstacle_grid.proofs.lemmas.Sizes.{length-marks}

-- ---- the parts

-- the graph of these parts
pub graph_from_parts : (o : ObstaclesValue) (n : ℕ) (edges : List Edge) (terminals : List ℕ)
    → n ≡ (obstacle_grid_of o).vertices → edges ≡ filter (is_allowed o) (obstacle_grid_of o).edges
    → terminals ≡ (obstacle_grid_of o).terminals → graph_of n edges terminals ≡ obstacle_graph_of o
graph_from_parts o n edges terminals count edges_are terminals_are = rw (count, edges_are, terminals_are) refl

-- the vertex of a point is one
point_below : (o : ObstaclesValue) (k : ℕ) (d : Point) → k < length o.points
    → vertex_of (columns_of o) (rows_of o) (get_or o.points k d) < length (columns_of o) * length (rows_of o)
point_below o k d inside =
    grind (arith, get_or_append_left o.points (flat_map corners_of o.boxes) d k inside, vertex_of-below, length-marks o)

-- but for the total, points and boxes make a graph
pub sound_parts : (o : ObstaclesValue) → AreObstacles o → HasSoundParts (obstacle_graph_of o)
sound_parts o are = record {
  edges = record {
    ends = All-filter (is_allowed o) (HasEndsBelow (length (columns_of o) * length (rows_of o)))
        (obstacle_grid_of o).edges (ends_below (columns_of o) (rows_of o));
    lengths = All-filter (is_allowed o) (λ e. 0 < e.length) (obstacle_grid_of o).edges
        (lengths_positive (columns_of o) (rows_of o) (IsRising-xs_of (marks_of o)) (IsRising-ys_of (marks_of o)));
  };
  terminal = omega (arith, length-map o.points (vertex_of (columns_of o) (rows_of o)), are.points.some);
  terminals = All-map (λ t. t < length (columns_of o) * length (rows_of o)) (vertex_of (columns_of o) (rows_of o))
      o.points (point_below o);
}

-- there are at most 50 terminals
pub few_terminals : (o : ObstaclesValue) → AreObstacles o → length (obstacle_graph_of o).terminals ≤ 50
few_terminals o are = omega (arith, length-map o.points (vertex_of (columns_of o) (rows_of o)), are.points.few)

-- ---- faults

-- so it is with these parts
pub known_fault_of_parts : (o : ObstaclesValue) (g : Graph) (fault told : GraphFault) → AreObstacles o
    → g ≡ obstacle_graph_of o → told ≡ fault → IsFirstFault g told → IsTotalOrMemory fault
known_fault_of_parts o g fault told are is same first = grind (arith, known_fault, sound_parts o are)

-- ---- what the edges join

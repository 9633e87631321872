-- The faults that the graph of a grid may have.
use Rattle.std.proofs.Common.{ℕ, ◌*◌, ℤ, refl, ◌≡◌, ◌<◌, List, length, map, subst, arith}
use Rattle.std.proofs.lemmas.List.{length-map}
use Rattle.hanan_grid.specs.FaultLaws.{known_fault}
use Rattle.points_in.specs.declared.point.Point.{Point}
use Rattle.net_graph.specs.declared.edge.Edge.{Edge}
use Rattle.net_graph.specs.Graph.{Graph, graph_of}
use Rattle.net_graph.specs.Fault.{IsFirstFault}
use Rattle.net_graph.specs.declared.graph.GraphFault.{GraphFault}
use Rattle.hanan_grid.specs.Grid.{xs_of, ys_of, vertex_of, hanan_grid_of}
use Rattle.hanan_grid.specs.Fault.{IsTotalOrMemory}
use Rattle.hanan_grid.specs.GridLaws.{edges_of_lines, ends_below, lengths_positive, terminals_below, IsRising-xs_of, IsRising-ys_of}

-- the fault of a grid's graph is its total or want of memory
pub known_fault_of_grid : (ps : List Point) (g : Graph) (fault : GraphFault) → 0 < length ps → g ≡ hanan_grid_of ps → IsFirstFault g fault → IsTotalOrMemory fault
known_fault_of_grid ps g fault some is first =
    known_fault (hanan_grid_of ps) fault (grind (arith, ends_below (xs_of ps) (ys_of ps), lengths_positive (xs_of ps) (ys_of ps) (IsRising-xs_of ps) (IsRising-ys_of ps), length-map ps (vertex_of (xs_of ps) (ys_of ps)), terminals_below ps)) (subst (λ h. IsFirstFault h fault) is first)

-- the graph of the lines' edges and the points' vertices is the points' grid
pub graph_from_parts : (ps : List Point) (xs ys : List ℤ) (edges : List Edge) (terminals : List ℕ) → xs ≡ xs_of ps → ys ≡ ys_of ps → edges ≡ edges_of_lines xs ys → terminals ≡ map (vertex_of xs ys) ps → graph_of (length xs * length ys) edges terminals ≡ hanan_grid_of ps
graph_from_parts ps xs ys edges terminals columns rows edges_are terminals_are = rw (edges_are, terminals_are, columns, rows) refl

-- The text of the graph of points and boxes is read back word for word.
use Rattle.std.specs.Prelude.{ℕ, ◌≡◌, ◌+◌, ◌-◌, ◌*◌, ◌<◌, ◌≤◌, ◌^◌, ℤ, pos, List, [], ◌∷◌, length, map}
use Rattle.std.specs.Prelude.{filter, flat_map, get_or, sum_by, All}
use Rattle.std.proofs.Common.{arith, refl, sym, ap, subst, ◌∙◌}
use Rattle.std.proofs.lemmas.List.{length-map, get_or-map, get_or_append_left}
use Rattle.std.proofs.lemmas.List.Elements.{All-append, All-filter, All-head, All-tail, All-map}
use Rattle.std.proofs.lemmas.List.Sums.{sum_by-cons}
use Rattle.lists.specs.ListLaws.{length-filter-le}
use Rattle.stp_format.specs.declared.edge.StpEdge.{StpEdge}
use Rattle.points_in.specs.declared.point.Point.{Point}
use Rattle.net_graph.specs.declared.edge.Edge.{Edge}
use Rattle.net_graph.specs.Graph.{Graph, IsGraph}
use Rattle.net_graph.specs.Network.{IsNetwork}
use Rattle.hanan_grid.specs.Grid.{horizontal, vertical, horizontals, verticals, vertex_of}
use Rattle.hanan_grid.specs.GridLaws.{edges_of_lines, IsRising-xs_of, IsRising-ys_of, Contains-xs_of, Contains-ys_of}
use Rattle.hanan_grid.specs.Names.{IsCrossing}
use Rattle.hanan_grid.specs.NamesLaws.{point_of_vertex-vertex_of}
use Rattle.hanan_grid.specs.Tables.{All-table_from}
use Rattle.graph_solve.specs.Task.{graph_of_stp, all_edges}
use Rattle.graph_solve.specs.Fault as problem
use Rattle.obstacles_in.specs.Obstacles.{ObstaclesValue, AreObstacles, corners_of, marks_of, columns_of, rows_of}
use Rattle.obstacle_grid.specs.Fault.{IsTask}
use Rattle.obstacle_grid.specs.Grid.{obstacle_grid_of, is_allowed, obstacle_graph_of}
use Rattle.obstacle_grid.specs.ReadBack.{turned, with_edges_turned, AreDifferent, ObstaclesAreReadBack}
use Rattle.obstacle_grid.proofs.lemmas.Faults.{sound_parts, few_terminals}
use Rattle.obstacle_grid.proofs.lemmas.ReadBack.{node_edge, node_of, file_of, text_is_file, graph_is_back}
use Rattle.obstacle_grid.proofs.lemmas.Sizes.{few_edges, length-marks}

-- ---- its edges have their lower end first

-- an edge that is turned already
abbrev IsTurned : Edge → Type 0
IsTurned e = turned e ≡ e

turned_already : (e : Edge) → e.a ≤ e.b → IsTurned e
turned_already e order = grind arith

edges_turned : (xs ys : List ℤ) → All IsTurned (edges_of_lines xs ys)
edges_turned xs ys = All-append IsTurned (horizontals xs ys) (verticals xs ys)
    (All-table_from IsTurned (horizontal xs) 0 (length ys) (length xs - 1)
    (λ j i row column. turned_already (horizontal xs j i) (omega arith)))
    (All-table_from IsTurned (vertical (length xs) ys) 0 (length ys - 1) (length xs)
    (λ j i row column. turned_already (vertical (length xs) ys j i)
    (let up : (j + 1) * length xs ≡ j * length xs + length xs = omega arith in omega (arith, up))))

-- edges that are turned already stay
turned_stay : (edges : List Edge) → All IsTurned edges → map turned edges ≡ edges
turned_stay [] all = refl
turned_stay (e ∷ edges) all = ap (λ x. x ∷ map turned edges) (All-head IsTurned e edges all)
    ∙ ap (λ es. e ∷ es) (turned_stay edges (All-tail IsTurned e edges all))

graph_stays : (o : ObstaclesValue) → with_edges_turned (obstacle_graph_of o) ≡ obstacle_graph_of o
graph_stays o =
    let edges = (obstacle_grid_of o).edges in
    let all = All-filter (is_allowed o) IsTurned edges (edges_turned (columns_of o) (rows_of o)) in
    rw (turned_stay (filter (is_allowed o) edges) all) refl

-- ---- its terminals are different

-- the point of a place is a crossing
crossing_of : (o : ObstaclesValue) (k : ℕ) (d : Point) → k < length o.points
    → IsCrossing (columns_of o) (rows_of o) (get_or o.points k d)
crossing_of o k d inside =
    let here = get_or_append_left o.points (flat_map corners_of o.boxes) d k inside in
    let among : k < length (marks_of o) = omega (arith, inside, length-marks o) in
    subst (λ p. IsCrossing (columns_of o) (rows_of o) p) here
    (record { x = Contains-xs_of (marks_of o) k d among; y = Contains-ys_of (marks_of o) k d among })

-- two points with one vertex are one
same_point : (o : ObstaclesValue) (p q : Point) → IsCrossing (columns_of o) (rows_of o) p
    → IsCrossing (columns_of o) (rows_of o) q
    → vertex_of (columns_of o) (rows_of o) p ≡ vertex_of (columns_of o) (rows_of o) q → p ≡ q
same_point o p q at at' same =
    grind (
      arith,
      point_of_vertex-vertex_of (columns_of o) (rows_of o) p (IsRising-xs_of (marks_of o)) (IsRising-ys_of (marks_of o)),
      point_of_vertex-vertex_of (columns_of o) (rows_of o) q (IsRising-xs_of (marks_of o)) (IsRising-ys_of (marks_of o)) at',
    )

-- some point
nowhere : Point
nowhere = record { x = pos 0; y = pos 0 }

different_terminals : (o : ObstaclesValue) → AreObstacles o → AreDifferent (obstacle_graph_of o).terminals
different_terminals o are i j d earlier inside same =
    let vertex = vertex_of (columns_of o) (rows_of o) in
    let last : j < length o.points = omega (arith, inside, length-map o.points vertex) in
    let first : i < length o.points = omega arith in
    let at_i = get_or-map vertex o.points i nowhere d first in
    let at_j = get_or-map vertex o.points j nowhere d last in
    are.points.distinct i j nowhere earlier last
    (same_point o (get_or o.points i nowhere) (get_or o.points j nowhere) (crossing_of o i nowhere first)
    (crossing_of o j nowhere last) (sym at_i ∙ (same ∙ at_j)))

-- ---- the file is a Steiner problem

-- the graph is sound
sound_graph : (o : ObstaclesValue) → AreObstacles o → IsTask o → IsGraph (obstacle_graph_of o)
sound_graph o are task =
    let parts = sound_parts o are in
    record {
      few_vertices = are.small;
      few_edges = omega (arith, length-filter-le (is_allowed o) (obstacle_grid_of o).edges, few_edges o are);
      ends = parts.edges.ends;
      lengths = parts.edges.lengths;
      terminal = parts.terminal;
      terminals = parts.terminals;
      total = task.total;
    }

-- the lengths of a file's edges sum to the graph's total
same_total : (edges : List Edge) → sum_by (λ (e : StpEdge). e.length) (map node_edge edges)
    ≡ sum_by (λ (e : Edge). e.length) edges
same_total [] = refl
same_total (e ∷ edges) =
    omega (
      arith,
      same_total edges,
      sum_by-cons (λ (x : Edge). x.length) e edges,
      sum_by-cons (λ (x : StpEdge). x.length) (node_edge e) (map node_edge edges),
    )

-- the file of a graph that all its edges join is a Steiner problem
file_is_problem : (g : Graph) → IsGraph g → length g.terminals ≤ 255 → graph_of_stp (file_of g) ≡ g
    → IsNetwork g (all_edges g) → problem.IsTask (file_of g)
file_is_problem g is few same joined = record {
  lengths = record {
    terminal = record {
      small = record {
        nodes = is.few_vertices;
        edges = omega (arith, is.few_edges, length-map g.edges node_edge);
        terminals = subst (λ h. length h.terminals ≤ 255) (sym same) few;
      };
      terminal = omega (arith, is.terminal, length-map g.terminals node_of);
    };
    lengths = All-map (λ (e : StpEdge). 0 < e.length) node_edge g.edges is.lengths;
  };
  total = subst (λ n. n < 2 ^ 63) (sym (same_total g.edges)) is.total;
  joined = subst (λ h. IsNetwork h (all_edges h)) (sym same) joined;
}

-- the second law
pub obstacles_are_read_back_lem : ObstaclesAreReadBack
obstacles_are_read_back_lem o are task =
    let g = obstacle_graph_of o in
    let is = sound_graph o are task in
    let few : length g.terminals ≤ 255 = omega (arith, few_terminals o are) in
    let same = graph_is_back g (different_terminals o are) ∙ graph_stays o in
    (file_of g, text_is_file g is few, same, file_is_problem g is few same task.joined)

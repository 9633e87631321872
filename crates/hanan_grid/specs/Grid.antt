-- Hanan's grid of a list of terminals, as a graph (Hanan 1966). The numbers of vertices and edges are
-- this project's own choice.
use Rattle.std.specs.Prelude.{ℕ, ◌+◌, ◌-◌, ◌*◌, ℤ, List, ◌++◌, length, map, flat_map}
use Rattle.std.specs.List.{range_with_len}
use Rattle.points_in.specs.declared.point.Point.{Point}
use Rattle.net_graph.specs.declared.edge.Edge.{Edge}
use Rattle.net_graph.specs.Graph.{Graph}
use Rattle.hanan_grid.specs.Lines.{ascending, gap_after, place_of}

-- the vertical lines, by their x, and the horizontal lines, by their y
abbrev pub xs_of : List Point → List ℤ
xs_of ps = ascending (map (λ p. p.x) ps)

abbrev pub ys_of : List Point → List ℤ
ys_of ps = ascending (map (λ p. p.y) ps)

-- the number of the crossing of column i and row j, where a row has nx crossings
abbrev pub vertex_number : ℕ → ℕ → ℕ → ℕ
vertex_number nx i j = j * nx + i

-- the edge from the crossing (i, j) to the next one to the right
abbrev pub horizontal : List ℤ → ℕ → ℕ → Edge
horizontal xs j i = record {
  a = vertex_number (length xs) i j;
  b = vertex_number (length xs) (i + 1) j;
  length = gap_after xs i;
}

-- the edge from the crossing (i, j) to the next one above, where a row has nx crossings
abbrev pub vertical : ℕ → List ℤ → ℕ → ℕ → Edge
vertical nx ys j i = record { a = vertex_number nx i j; b = vertex_number nx i (j + 1); length = gap_after ys j }

-- all of them, by row and then by column
abbrev pub horizontals : List ℤ → List ℤ → List Edge
horizontals xs ys =
    flat_map (λ j. map (horizontal xs j) (range_with_len 0 (length xs - 1))) (range_with_len 0 (length ys))

abbrev pub verticals : List ℤ → List ℤ → List Edge
verticals xs ys =
    flat_map (λ j. map (vertical (length xs) ys j) (range_with_len 0 (length xs))) (range_with_len 0 (length ys - 1))

-- the vertex of a point whose coordinates are lines
abbrev pub vertex_of : List ℤ → List ℤ → Point → ℕ
vertex_of xs ys p = vertex_number (length xs) (place_of p.x xs) (place_of p.y ys)

-- the graph of the lines, with the terminals' vertices
abbrev pub graph_of_lines : List ℤ → List ℤ → List Point → Graph
graph_of_lines xs ys ps = record {
  vertices = length xs * length ys;
  edges = horizontals xs ys ++ verticals xs ys;
  terminals = map (vertex_of xs ys) ps;
}

-- Hanan's grid of the terminals
abbrev pub hanan_grid_of : List Point → Graph
hanan_grid_of ps = graph_of_lines (xs_of ps) (ys_of ps) ps

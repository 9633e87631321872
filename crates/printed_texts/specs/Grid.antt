-- Hanan's grid of points, as an STP file: node v + 1 is the vertex v.
use Rattle.std.specs.Prelude.{ℕ, ◌+◌, List, ◌++◌, length, flat_map}
use Rattle.std.specs.List.{range_with_len}
use Rattle.points_in.specs.declared.point.Point.{Point}
use Rattle.net_graph.specs.declared.edge.Edge.{Edge}
use Rattle.net_graph.specs.Graph.{Graph}
use Rattle.hanan_grid.specs.Grid.{xs_of, ys_of, hanan_grid_of}
use Rattle.hanan_grid.specs.Names.{point_of_vertex}
use Rattle.stp_text.specs.Lines.{head_text, section_end, graph_head, edge_line, terminals_head, terminal_line, coordinates_head, located_line, end_text}

-- the line of an edge, its ends in the order in which the graph has them
abbrev pub edge_between : Edge → List ℕ
edge_between e = edge_line (e.a + 1) (e.b + 1) e.length

-- the section of the graph: all edges, in ascending number
abbrev pub graph_text : Graph → List ℕ
graph_text g = graph_head g.vertices (length g.edges) ++ flat_map edge_between g.edges ++ section_end

-- the line of a terminal, by its vertex
abbrev pub terminal_at : ℕ → List ℕ
terminal_at vertex = terminal_line (vertex + 1)

-- the section of the terminals, in the order of their list
abbrev pub terminals_text : Graph → List ℕ
terminals_text g = terminals_head (length g.terminals) ++ flat_map terminal_at g.terminals ++ section_end

-- the line of a vertex and its point
abbrev pub vertex_line : List Point → ℕ → List ℕ
vertex_line ps vertex = located_line (vertex + 1) (point_of_vertex (xs_of ps) (ys_of ps) vertex)

-- the section of the points of all vertices, in ascending number
abbrev pub coordinates_text : List Point → List ℕ
coordinates_text ps =
    coordinates_head ++ flat_map (vertex_line ps) (range_with_len 0 (hanan_grid_of ps).vertices) ++ section_end

-- the sections behind the comment
abbrev pub grid_sections_text : List Point → List ℕ
grid_sections_text ps = graph_text (hanan_grid_of ps) ++ terminals_text (hanan_grid_of ps) ++ coordinates_text ps

-- the whole file
unfoldable pub grid_stp_text : List Point → List ℕ
grid_stp_text ps = head_text ++ grid_sections_text ps ++ end_text

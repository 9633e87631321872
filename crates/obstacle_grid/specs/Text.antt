-- The text of a graph as an STP file: node v + 1 is the vertex v.
use Rattle.std.specs.Prelude.{ℕ, ◌+◌, List, ◌++◌, length, flat_map, min, max}
use Rattle.net_graph.specs.declared.edge.Edge.{Edge}
use Rattle.net_graph.specs.Graph.{Graph}
use Rattle.stp_text.specs.Lines.{head_text, section_end, graph_head, edge_line, terminals_head, terminal_line, end_text}

-- the line of an edge, whose end of the lower number stands first
abbrev pub edge_text : Edge → List ℕ
edge_text e = edge_line (min e.a e.b + 1) (max e.a e.b + 1) e.length

-- the section of the graph: all edges, in ascending number
abbrev pub graph_text : Graph → List ℕ
graph_text g = graph_head g.vertices (length g.edges) ++ flat_map edge_text g.edges ++ section_end

-- the line of a terminal, by its vertex
abbrev pub terminal_text : ℕ → List ℕ
terminal_text vertex = terminal_line (vertex + 1)

-- the section of the terminals, in the order of their list
abbrev pub terminals_text : Graph → List ℕ
terminals_text g = terminals_head (length g.terminals) ++ flat_map terminal_text g.terminals ++ section_end

-- the whole file, which has no section of coordinates
unfoldable pub graph_stp_text : Graph → List ℕ
graph_stp_text g = head_text ++ (graph_text g ++ terminals_text g) ++ end_text

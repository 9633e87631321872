-- The graph of an STP file.
use Rattle.std.specs.Prelude.{ℕ, ◌-◌, Bool, true, List, length, map, replicate, sum_by}
use Rattle.stp_format.specs.declared.edge.StpEdge.{StpEdge}
use Rattle.stp_format.specs.Value.{StpValue}
use Rattle.net_graph.specs.declared.edge.Edge.{Edge}
use Rattle.net_graph.specs.Distinct.{distinct_of}
use Rattle.net_graph.specs.Graph.{Graph, graph_of}

-- node i of a file, counted from 1, is the vertex i - 1 of its graph
abbrev pub vertex_of : ℕ → ℕ
vertex_of node = node - 1

-- an edge of a file, between the vertices of its nodes
abbrev pub edge_of : StpEdge → Edge
edge_of e = record { a = vertex_of e.i; b = vertex_of e.j; length = e.length }

-- the vertices of a file's terminals, in the order of their lines, each once
abbrev pub terminals_of : StpValue → List ℕ
terminals_of file = distinct_of (map vertex_of file.terminals)

-- The graph of a file: a vertex for each node, the edges in order, and the terminals.
abbrev pub graph_of_stp : StpValue → Graph
graph_of_stp file = graph_of file.nodes (map edge_of file.edges) (terminals_of file)

-- the sum of the lengths of a file's edges
abbrev pub total_of_stp : StpValue → ℕ
total_of_stp file = sum_by (λ e. e.length) file.edges

-- the set of all edges of a graph
abbrev pub all_edges : Graph → List Bool
all_edges g = replicate (length g.edges) true

-- A graph with edge lengths and terminals, as contracts see it.
use Rattle.std.specs.Prelude.{ℕ, ◌<◌, ◌≤◌, ◌^◌, List, length, slice_index, sum_by, All}
use Rattle.net_graph.specs.declared.edge.Edge.{Edge}

-- The vertices are the numbers below `vertices`. Edges and terminals are known by their places.
pub record Graph : Type 0 where
  pub vertices : ℕ
  pub edges : List Edge
  pub terminals : List ℕ

-- the graph of these parts
abbrev pub graph_of : ℕ → List Edge → List ℕ → Graph
graph_of vertices edges terminals = record { vertices = vertices; edges = edges; terminals = terminals }

-- the sum of all edge lengths
abbrev pub total_of : Graph → ℕ
total_of g = sum_by (λ e. e.length) g.edges

-- the first terminal's vertex
abbrev pub root_of : Graph → ℕ
root_of g = slice_index g.terminals 0

-- both ends are vertices
pub record HasEndsBelow (vertices : ℕ) (e : Edge) : Type 0 where
  pub a : e.a < vertices
  pub b : e.b < vertices

-- A graph of the suite: its edges join vertices and have a length, it has a terminal, its terminals are
-- vertices, and the lengths sum to a signed 64-bit number.
pub record IsGraph (g : Graph) : Type 0 where
  pub few_vertices : g.vertices ≤ 2500
  pub few_edges : length g.edges ≤ 4900
  pub ends : All (HasEndsBelow g.vertices) g.edges
  pub lengths : All (λ e. 0 < e.length) g.edges
  pub terminal : 0 < length g.terminals
  pub terminals : All (λ t. t < g.vertices) g.terminals
  pub total : total_of g < 2 ^ 63

-- States of a reduction: what is left of a graph with terminals, and what is certain by then.
use Rattle.std.specs.Prelude.{ℕ, ◌+◌, ◌≡◌, ◌⊎◌, Bool, true, false, ◌||◌, List, [], ◌∷◌, length, replicate, slice_get, slice_set, Option, Some, Contains}
use Rattle.net_graph.specs.declared.edge.Edge.{Edge}
pub use Rattle.graph_reduce.specs.declared.originals.Bundle.{Bundle}
use Rattle.net_graph.specs.Distinct.{distinct_of}
use Rattle.net_graph.specs.Graph.{Graph}
use Rattle.net_graph.specs.Network.{HasEnds}

-- Nodes keep the graph's numbers, and `nodes` is the set of those that are left. Edges are known by their places; a
-- place whose edge is dropped holds none. The forced edges of the graph are in every lifted network, and the offset is
-- what they are counted for.
pub record State : Type 0 where
  pub nodes : List Bool
  pub edges : List (Option Bundle)
  pub terminals : List ℕ
  pub forced : List Bool
  pub offset : ℕ

-- the place holds this edge
abbrev pub HasEdge : State → ℕ → Bundle → Type 0
HasEdge s place x = slice_get s.edges place ≡ Some (Some x)

-- the node is left
abbrev pub HasNode : State → ℕ → Type 0
HasNode s v = slice_get s.nodes v ≡ Some true

-- the node is a terminal
abbrev pub IsTerminal : State → ℕ → Type 0
IsTerminal s v = Contains s.terminals v

-- the place holds an edge that has an end in the node
abbrev pub EndsIn : State → ℕ → ℕ → Type 0
EndsIn s v place = (x : Bundle) × HasEdge s place x × ((x.edge.a ≡ v) ⊎ (x.edge.b ≡ v))

-- the node has one edge, which is this one, and this is the edge's other end
pub record HasOneEdge (s : State) (v place : ℕ) (x : Bundle) (other : ℕ) : Type 0 where
  pub at : HasEdge s place x
  pub ends : HasEnds x.edge v other
  pub only : (n : ℕ) → EndsIn s v n → n ≡ place

-- the numbers of either set
abbrev pub union : List Bool → List Bool → List Bool
union [] ys = ys
union (x ∷ xs) [] = x ∷ xs
union (x ∷ xs) (y ∷ ys) = (x || y) ∷ union xs ys

-- each edge stands for itself; the first has the number n, and the graph has so many
abbrev pub bundles_from : ℕ → ℕ → List Edge → List (Option Bundle)
bundles_from size n [] = []
bundles_from size n (e ∷ es) =
    Some (record { edge = e; originals = slice_set (replicate size false) n true }) ∷ bundles_from size (n + 1) es

-- the graph itself: all nodes and edges are left, and no edge is forced
abbrev pub start_of : Graph → State
start_of g = record {
  nodes = replicate g.vertices true;
  edges = bundles_from (length g.edges) 0 g.edges;
  terminals = distinct_of g.terminals;
  forced = replicate (length g.edges) false;
  offset = 0;
}

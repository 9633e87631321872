-- The graph that a reduction leaves, with what its vertices and edges stand for.
use Rattle.std.specs.Prelude.{ℕ, zero, suc, ◌≡◌, Bool, true, false, List, [], ◌∷◌, map, length, Option, Some, None, if◌then◌else◌}
use Rattle.net_graph.specs.declared.edge.Edge.{Edge}
use Rattle.net_graph.specs.Graph.{Graph, graph_of}
use Rattle.net_graph.specs.Members.{members_of}
use Rattle.graph_reduce.specs.State.{Bundle, State, union}
use Rattle.graph_reduce.specs.Step.{IsReducedTo}

-- Each vertex of the reduced graph was a node of the original one, and each edge stands for a set of its edges. Others
-- of its edges are forced: they are in every lifted network, and the offset is what they add to its length.
pub record Reduction : Type 0 where
  pub graph : Graph
  pub origins : List ℕ
  pub originals : List (List Bool)
  pub forced : List Bool
  pub offset : ℕ

-- the edges that are left, in the order of their places
abbrev pub bundles_left : List (Option Bundle) → List Bundle
bundles_left [] = []
bundles_left (None ∷ rest) = bundles_left rest
bundles_left (Some x ∷ rest) = x ∷ bundles_left rest

-- how many of the numbers below this one are in the set
abbrev pub number_among : List Bool → ℕ → ℕ
number_among [] v = 0
number_among (flag ∷ flags) zero = 0
number_among (true ∷ flags) (suc v) = suc (number_among flags v)
number_among (false ∷ flags) (suc v) = number_among flags v

-- the edge between the new numbers of its ends
abbrev pub renumbered : List Bool → Edge → Edge
renumbered nodes e = record { a = number_among nodes e.a; b = number_among nodes e.b; length = e.length }

-- the nodes and edges that are left get new numbers, in ascending order
abbrev pub reduction_of : State → Reduction
reduction_of s = record {
  graph = graph_of (length (members_of s.nodes)) (map (λ x. renumbered s.nodes x.edge) (bundles_left s.edges))
      (map (number_among s.nodes) s.terminals);
  origins = members_of s.nodes;
  originals = map (λ x. x.originals) (bundles_left s.edges);
  forced = s.forced;
  offset = s.offset;
}

-- the reduction of a graph: the rules are taken until none applies, and what is left gets new numbers
pub record IsReductionOf (g : Graph) (r : Reduction) : Type 0 where
  pub state : State
  pub reduced : IsReducedTo g state
  pub is : r ≡ reduction_of state

-- the numbers of those of the sets whose flag is set, and of one set more
abbrev pub union_of : List (List Bool) → List Bool → List Bool → List Bool
union_of [] set more = more
union_of (x ∷ xs) [] more = more
union_of (x ∷ xs) (flag ∷ set) more = if flag then union x (union_of xs set more) else union_of xs set more

-- what a set of the reduced graph's edges stands for: all that its edges stand for, and the forced edges
abbrev pub lift_of : Reduction → List Bool → List Bool
lift_of r set = union_of r.originals set r.forced

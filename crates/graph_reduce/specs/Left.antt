-- The nodes and edges that are left, with their new numbers.
use Rattle.std.specs.Prelude.{ℕ, ◌≡◌, ◌<◌, ◌≤◌, Bool, List, map, length, slice_get, slice_index, Option, Some, All}
use Rattle.std.specs.List.{range_with_len}
use Rattle.net_graph.specs.declared.edge.Edge.{Edge}
use Rattle.graph_reduce.specs.State.{Bundle}
use Rattle.graph_reduce.specs.Reduction.{Reduction, bundles_left, number_among}

-- the edge between the numbers that a list has for its ends
abbrev pub between_numbers : List ℕ → Edge → Edge
between_numbers numbers e = record { a = slice_index numbers e.a; b = slice_index numbers e.b; length = e.length }

-- the edges that are left, between new numbers
abbrev pub edges_left : List ℕ → List (Option Bundle) → List Edge
edges_left numbers edges = map (λ x. between_numbers numbers x.edge) (bundles_left edges)

-- the ends of each edge have a number
abbrev pub HaveEndsBelow : ℕ → List (Option Bundle) → Type 0
HaveEndsBelow count edges = (place : ℕ) (x : Bundle) → slice_get edges place ≡ Some (Some x) →
    (x.edge.a < count) × (x.edge.b < count)

-- the new number of each node, which is how many lower nodes are left
abbrev pub numbers_of : List Bool → List ℕ
numbers_of nodes = map (number_among nodes) (range_with_len 0 (length nodes))

-- the parts of a reduction are of the size of the graph
pub record IsLaidOut (r : Reduction) : Type 0 where
  pub nodes : All (λ v. v < 2500) r.origins
  pub vertices : length r.origins ≡ r.graph.vertices
  pub edges : length r.originals ≡ length r.graph.edges
  pub sizes : (n : ℕ) (set : List Bool) → slice_get r.originals n ≡ Some set → length set ≡ length r.forced
  pub few : length r.forced ≤ 4900

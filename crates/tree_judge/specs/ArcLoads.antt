-- The loads of a graph's arcs, and the list of the edges that are loaded.
use Rattle.std.specs.Prelude.{ℕ, ◌≡◌, ◌+◌, ◌<◌, ◌↔◌, ◌==◌, true, List, length, replicate, slice_index}
use Rattle.std.specs.List.{IsDistinct, list_any}

-- the load of each edge's arc from its end a to its end b, and that of the arc back
pub record ArcLoads : Type 0 where
  pub there : List ℕ
  pub back : List ℕ

-- no arc of so many edges is loaded
abbrev pub no_loads : ℕ → ArcLoads
no_loads edges = record { there = replicate edges 0; back = replicate edges 0 }

-- the loads of an edge's two arcs together
abbrev pub both_loads : List ℕ → List ℕ → ℕ → ℕ
both_loads there back n = slice_index there n + slice_index back n

-- the edge stands in the list
abbrev pub IsListed : List ℕ → ℕ → Type 0
IsListed listed n = list_any (λ m. n == m) listed ≡ true

-- the list has the edges of which an arc is loaded, each once
pub record IsList (there back listed : List ℕ) : Type 0 where
  pub once : IsDistinct (λ a b. a == b) listed
  pub loaded : (n : ℕ) → IsListed listed n ↔ (0 < both_loads there back n)

-- there are as many loads of arcs back, and the list of edges has room for all of them
pub record AreLoads (there back listed : List ℕ) (capacity : ℕ) : Type 0 where
  pub size : length back ≡ length there
  pub room : capacity ≡ length there
  pub list : IsList there back listed

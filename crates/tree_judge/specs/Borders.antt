-- Which edges of a graph a set of vertices parts, as the bits of a word tell it.
use Rattle.std.specs.Prelude.{ℕ, ◌≡◌, ◌+◌, ◌-◌, ◌^◌, ◌<◌, ◌≤◌, Bool, false, List, slice_get, Some}
use Rattle.std.specs.Int.{bit_at}
use Rattle.net_graph.specs.declared.edge.Edge.{Edge}
use Rattle.net_graph.specs.Graph.{Graph}
use Rattle.net_graph.specs.Packing.{enters}

-- neither arc of the edge enters the set
abbrev pub IsWhole : Graph → List Bool → ℕ → Type 0
IsWhole g members n = (e : Edge) → slice_get g.edges n ≡ Some e →
    (enters members e.a e.b ≡ false) × (enters members e.b e.a ≡ false)

-- of the edges from n on, up to one, those whose bits are 0 are whole, and the bits behind those edges' are 0
pub record MarksParted (g : Graph) (members : List Bool) (marks n end : ℕ) : Type 0 where
  pub within : n ≤ end
  pub below : marks < 2 ^ (end - n)
  pub others : (i : ℕ) → n + i < end → bit_at marks i ≡ 0 → IsWhole g members (n + i)

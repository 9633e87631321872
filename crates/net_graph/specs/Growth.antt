-- What leads to some of several vertices, where the steps grow more.
use Rattle.std.specs.Prelude.{ℕ, ◌≡◌, ◌<◌, ◌≤◌, Bool, List, length, slice_get, Some, Contains, All, ◌⊎◌}
use Rattle.net_graph.specs.declared.edge.Edge.{Edge}
use Rattle.net_graph.specs.declared.arcs.Arc.{Arc}
use Rattle.net_graph.specs.Search.{OpenStep, Leads}

-- a walk leads from the vertex to one of these
abbrev pub LeadsToOne : (ℕ → ℕ → Type 0) → List ℕ → ℕ → Type 0
LeadsToOne Step ends v = (end : ℕ) × Contains ends end × Leads Step v end

-- a walk leads to the vertex from one of these
abbrev pub LeadsFromOne : (ℕ → ℕ → Type 0) → List ℕ → ℕ → Type 0
LeadsFromOne Step starts v = (start : ℕ) × Contains starts start × Leads Step start v

-- the vertices before the place were gone over: each step from one of them leads to a vertex of the list
pub record IsGoneOver (vertices : ℕ) (Step : ℕ → ℕ → Type 0) (place : ℕ) (order : List ℕ) : Type 0 where
  pub below : All (λ v. v < vertices) order
  pub within : place ≤ length order
  pub closed : (k v w : ℕ) → k < place → slice_get order k ≡ Some v → Step v w → Contains order w

-- one of the arcs leads from u to v
abbrev pub HasArc : List Arc → ℕ → ℕ → Type 0
HasArc arcs u v = (arc : Arc) × Contains arcs arc × (arc.from ≡ u) × (arc.to ≡ v)

-- Each open arc that leads to one of the vertices leads from one of them or is among these arcs, which may be walked.
pub record IsClosedBut (vertices : ℕ) (edges : List Edge) (opens : ℕ → Bool) (arcs : List Arc)
    (order : List ℕ) : Type 0 where
  pub below : All (λ arc. (arc.from < vertices) × (arc.to < vertices)) arcs
  pub steps : All (λ arc. OpenStep edges opens arc.from arc.to) arcs
  pub closed : (u v : ℕ) → Contains order v → OpenStep edges opens u v → Contains order u ⊎ HasArc arcs u v

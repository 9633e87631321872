-- Arcs. An edge is two arcs: arc 2n leads along edge n from its end a to its end b, and arc 2n + 1 from b to a.
use Rattle.std.specs.Prelude.{ℕ, ◌≡◌, ◌+◌, ◌-◌, ◌*◌, ◌%◌, ◌==◌, ◌<◌, ◌≤◌, List, length, slice_get, slice_index_or, Some, All, Contains, ◌⊎◌, if◌then◌else◌}
use Rattle.net_graph.specs.declared.edge.Edge.{Edge}
use Rattle.net_graph.specs.declared.arcs.Arc.{Arc}
use Rattle.net_graph.specs.Graph.{Graph}

-- the arc from an edge's end a to its end b
abbrev pub forward_arc : ℕ → Edge → Arc
forward_arc n e = record { number = 2 * n; from = e.a; to = e.b }

-- the arc from an edge's end b to its end a
abbrev pub backward_arc : ℕ → Edge → Arc
backward_arc n e = record { number = 2 * n + 1; from = e.b; to = e.a }

-- the number of the other arc of an arc's edge
abbrev pub partner_of : ℕ → ℕ
partner_of arc = if arc % 2 == 0 then arc + 1 else arc - 1

-- it is one of the two arcs of one of the edges
abbrev pub IsArcOf : List Edge → Arc → Type 0
IsArcOf edges arc = (n : ℕ) × (e : Edge) × (slice_get edges n ≡ Some e) ×
    ((arc ≡ forward_arc n e) ⊎ (arc ≡ backward_arc n e))

-- the arcs before this place lead from lesser vertices, and the others don't
pub record IsSplitAt (arcs : List Arc) (vertex place : ℕ) : Type 0 where
  pub within : place ≤ length arcs
  pub before : (k : ℕ) (d : Arc) → k < place → (slice_index_or arcs k d).from < vertex
  pub after : (k : ℕ) (d : Arc) → place ≤ k → k < length arcs → vertex ≤ (slice_index_or arcs k d).from

-- there is a place for each vertex and one past the last, and the arcs are split there
pub record IsSplitBy (arcs : List Arc) (starts : List ℕ) : Type 0 where
  pub some : 0 < length starts
  pub split : (v d : ℕ) → v < length starts → IsSplitAt arcs v (slice_index_or starts v d)

-- arcs by the vertex that they lead from, as contracts see them
pub record Arcs : Type 0 where
  pub vertices : ℕ
  pub all : List Arc

-- these are the arcs of the edges, and no others
pub record AreArcsOf (edges : List Edge) (arcs : List Arc) : Type 0 where
  pub each : All (IsArcOf edges) arcs
  pub every : (arc : Arc) → IsArcOf edges arc → Contains arcs arc

-- these are the arcs with P that lead from the vertex, and no others
pub record AreArcsFrom (P : Arc → Type 0) (vertex : ℕ) (arcs : List Arc) : Type 0 where
  pub each : All (λ arc. P arc × (arc.from ≡ vertex)) arcs
  pub every : (arc : Arc) → P arc → arc.from ≡ vertex → Contains arcs arc

-- the arcs are those of the graph
pub record AreArcsOfGraph (g : Graph) (arcs : Arcs) : Type 0 where
  pub vertices : arcs.vertices ≡ g.vertices
  pub all : AreArcsOf g.edges arcs.all

-- Saturated arcs, by the edges whose arcs they are.
use Rattle.std.specs.Prelude.{ℕ, ◌≡◌, ◌+◌, ◌*◌, ◌/◌, ◌<◌, ◌⊎◌, true, List, length, slice_get, Some, Contains}
use Rattle.net_graph.specs.declared.arcs.Arc.{Arc}
use Rattle.net_graph.specs.declared.edge.Edge.{Edge}
use Rattle.net_graph.specs.declared.packing.Cut.{Cut}
use Rattle.net_graph.specs.declared.state.EdgeState.{EdgeState}
use Rattle.net_graph.specs.Decision.{Decided, states_of}
use Rattle.net_graph.specs.Graph.{Graph}
use Rattle.net_graph.specs.Packing.{load, room_of}
use Rattle.dual_ascent.specs.declared.costs.EdgeCosts.{EdgeCosts}
use Rattle.dual_ascent.specs.Costs.{is_saturated}

-- an arc of the edge is saturated: its load is its room
abbrev pub HasSaturatedArc : Graph → Decided → List Cut → ℕ → Type 0
HasSaturatedArc g d packing n = (e : Edge) × (state : EdgeState) × (slice_get g.edges n ≡ Some e) ×
    (slice_get (states_of g d) n ≡ Some state) ×
    ((room_of state e ≡ Some (load packing e.a e.b)) ⊎ (room_of state e ≡ Some (load packing e.b e.a)))

-- the arc joins vertices along an edge, and nothing is left of its room
pub record IsOfSaturated (g : Graph) (costs : List EdgeCosts) (arc : Arc) : Type 0 where
  pub from : arc.from < g.vertices
  pub to : arc.to < g.vertices
  pub edge : arc.number / 2 < length g.edges
  pub saturated : is_saturated costs arc.number ≡ true

-- nothing is left of the room of one of the edge's arcs
abbrev pub IsUsedUpEdge : List EdgeCosts → ℕ → Type 0
IsUsedUpEdge costs n =
    (n < length costs) × ((is_saturated costs (2 * n) ≡ true) ⊎ (is_saturated costs (2 * n + 1) ≡ true))

-- one of the arcs is of the edge of this number
abbrev pub IsEdgeOfOne : List Arc → ℕ → Type 0
IsEdgeOfOne arcs n = (arc : Arc) × Contains arcs arc × (arc.number / 2 ≡ n)

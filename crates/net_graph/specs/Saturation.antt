-- Saturated arcs, and packings to which no more can be added along a shortest way (after the dual ascent of Wong 1984).
use Rattle.std.specs.Prelude.{ℕ, ◌≡◌, List, slice_get, Some}
use Rattle.net_graph.specs.declared.edge.Edge.{Edge}
use Rattle.net_graph.specs.declared.state.EdgeState.{EdgeState}
use Rattle.net_graph.specs.declared.packing.Cut.{Cut}
use Rattle.net_graph.specs.Graph.{Graph, root_of}
use Rattle.net_graph.specs.Network.{HasEnds}
use Rattle.net_graph.specs.Decision.{Decided, IsRequired, states_of}
use Rattle.net_graph.specs.Search.{Leads}
use Rattle.net_graph.specs.Packing.{load, room_of}

-- the arc from u to v of an edge that isn't free is saturated: its load is its room
abbrev pub SaturatedStep : Graph → Decided → List Cut → ℕ → ℕ → Type 0
SaturatedStep g d packing u v = (n : ℕ) × (e : Edge) × (state : EdgeState) × (slice_get g.edges n ≡ Some e) ×
    (slice_get (states_of g d) n ≡ Some state) × HasEnds e u v × (room_of state e ≡ Some (load packing u v))

-- saturated arcs lead, in their direction, from the root to every required vertex
abbrev pub IsMaximal : Graph → Decided → List Cut → Type 0
IsMaximal g d packing = (v : ℕ) → IsRequired g d v → Leads (SaturatedStep g d packing) (root_of g) v

-- What each edge has to keep to in a feasible packing.
use Rattle.std.specs.Prelude.{ℕ, ◌≡◌, List, slice_get, Some}
use Rattle.net_graph.specs.declared.edge.Edge.{Edge}
use Rattle.net_graph.specs.declared.state.EdgeState.{EdgeState}
use Rattle.net_graph.specs.declared.packing.Cut.{Cut}
use Rattle.net_graph.specs.Graph.{Graph}
use Rattle.net_graph.specs.Decision.{Decided, states_of}
use Rattle.net_graph.specs.Packing.{load, IsWithinRoom}

-- neither arc of the edge is loaded above its room
abbrev pub KeepsRoom : Graph → Decided → List Cut → ℕ → Type 0
KeepsRoom g d packing n = (e : Edge) (state : EdgeState) → slice_get g.edges n ≡ Some e →
    slice_get (states_of g d) n ≡ Some state →
    IsWithinRoom state e (load packing e.a e.b) × IsWithinRoom state e (load packing e.b e.a)

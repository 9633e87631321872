-- What is told of the networks that use an edge, by packings of directed cuts (dual ascent: Wong 1984; the bound of an
-- edge: this project). A network uses an edge where its root part holds it.
use Rattle.std.specs.Prelude.{ℕ, ◌≡◌, ◌≤◌, Bool, List}
use Rattle.net_graph.specs.declared.packing.Cut.{Cut}
use Rattle.net_graph.specs.declared.state.EdgeState.TheVariants.{Inside}
use Rattle.net_graph.specs.Graph.{Graph}
use Rattle.net_graph.specs.Network.{IsNetwork, length_of}
use Rattle.net_graph.specs.Decision.{Decided, InRootPart, nothing_decided, with_edge}
use Rattle.net_graph.specs.Packing.{IsFeasible, packing_value}
use Rattle.net_graph.specs.Saturation.{IsMaximal}

-- the root part of some network holds the edge
abbrev pub IsInSomeNetwork : Graph → ℕ → Type 0
IsInSomeNetwork g e = (set : List Bool) × IsNetwork g set × InRootPart g set e

-- the decision that takes the edge in and decides nothing else
abbrev pub edge_taken_in : Graph → ℕ → Decided
edge_taken_in g e = with_edge (nothing_decided g) e Inside

-- the number is the value of a packing that is feasible and maximal where the edge is taken in and nothing else decided
abbrev pub IsEdgeBound : Graph → ℕ → ℕ → Type 0
IsEdgeBound g e n = (packing : List Cut) × IsFeasible g (edge_taken_in g e) packing ×
    IsMaximal g (edge_taken_in g e) packing × (n ≡ packing_value g (edge_taken_in g e) packing)

-- no network whose root part holds the edge is shorter
abbrev pub IsLowerBoundWith : Graph → ℕ → ℕ → Type 0
IsLowerBoundWith g e bound =
    (other : List Bool) → IsNetwork g other → InRootPart g other e → bound ≤ length_of g other

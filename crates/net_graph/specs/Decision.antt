-- Decisions on a graph's edges and vertices.
use Rattle.std.specs.Prelude.{ℕ, ◌≡◌, ◌<◌, ◌≤◌, Bool, true, false, ◌||◌, List, [], ◌∷◌, slice_get, slice_set, Option, Some, ◌⊎◌, Contains, replicate, length, if◌then◌else◌}
use Rattle.net_graph.specs.declared.edge.Edge.{Edge}
use Rattle.net_graph.specs.declared.state.EdgeState.{EdgeState}
use Rattle.net_graph.specs.declared.state.EdgeState.TheVariants.{Undecided, Inside, Outside}
use Rattle.net_graph.specs.declared.state.VertexState.{VertexState}
use Rattle.net_graph.specs.declared.state.VertexState.TheVariants.{Met, Missed}
use Rattle.net_graph.specs.declared.state.VertexState.TheVariants as vertex
use Rattle.net_graph.specs.Graph.{Graph}
use Rattle.net_graph.specs.Network.{Reaches, IsNetwork, length_of}

-- What is decided of a graph: of each edge, by its number, whether it is inside, outside or undecided, and of each
-- vertex whether it is met, missed or undecided. So inside and outside edges are disjoint, and so are met and missed
-- vertices.
pub record Decided : Type 0 where
  pub edges : List EdgeState
  pub vertices : List VertexState

-- the decision of these states
abbrev pub decided_of : List EdgeState → List VertexState → Decided
decided_of edges vertices = record { edges = edges; vertices = vertices }

-- nothing is decided
abbrev pub nothing_decided : Graph → Decided
nothing_decided g = decided_of (replicate (length g.edges) Undecided) (replicate g.vertices vertex.Undecided)

-- the same decision but for the state of one edge
abbrev pub with_edge : Decided → ℕ → EdgeState → Decided
with_edge d e state = decided_of (slice_set d.edges e state) d.vertices

-- the same decision but for the state of one vertex
abbrev pub with_vertex : Decided → ℕ → VertexState → Decided
with_vertex d v state = decided_of d.edges (slice_set d.vertices v state)

-- the vertex is met
abbrev pub IsMet : Decided → ℕ → Type 0
IsMet d v = slice_get d.vertices v ≡ Some Met

-- the vertex is missed
abbrev pub IsMissed : Decided → ℕ → Type 0
IsMissed d v = slice_get d.vertices v ≡ Some Missed

-- an inside edge has this end
abbrev pub EndsInside : Graph → Decided → ℕ → Type 0
EndsInside g d v = (n : ℕ) × (e : Edge) × (slice_get d.edges n ≡ Some Inside) ×
    (slice_get g.edges n ≡ Some e) × ((e.a ≡ v) ⊎ (e.b ≡ v))

-- a terminal, an end of an inside edge, or met
abbrev pub IsRequired : Graph → Decided → ℕ → Type 0
IsRequired g d v = Contains g.terminals v ⊎ (EndsInside g d v ⊎ IsMet d v)

-- A decision on this graph: one state for each edge and one for each vertex, and no missed vertex is required. The root
-- is a terminal, so it isn't missed.
pub record IsDecisionFor (g : Graph) (d : Decided) : Type 0 where
  pub edges : length d.edges ≡ length g.edges
  pub vertices : length d.vertices ≡ g.vertices
  pub missed : (v : ℕ) → IsMissed d v → IsRequired g d v → ⊥

-- the edge is outside, or has an end in a missed vertex
abbrev pub IsFree : Graph → Decided → ℕ → Type 0
IsFree g d n = (slice_get d.edges n ≡ Some Outside) ⊎ ((e : Edge) × (slice_get g.edges n ≡ Some e) ×
    (IsMissed d e.a ⊎ IsMissed d e.b))

-- whether what was found for a vertex is that it is missed
abbrev pub is_missed : Option VertexState → Bool
is_missed (Some Missed) = true
is_missed _ = false

-- whether the edge has an end in a missed vertex
abbrev pub has_missed_end : List VertexState → Edge → Bool
has_missed_end vertices e = is_missed (slice_get vertices e.a) || is_missed (slice_get vertices e.b)

-- the state of an edge once its ends are looked at: an undecided edge at a missed vertex is outside
abbrev pub state_at_ends : List VertexState → Edge → EdgeState → EdgeState
state_at_ends vertices e Undecided = if has_missed_end vertices e then Outside else Undecided
state_at_ends vertices e Inside = Inside
state_at_ends vertices e Outside = Outside

-- the same of each edge
abbrev pub states_at_ends : List Edge → List EdgeState → List VertexState → List EdgeState
states_at_ends [] states vertices = []
states_at_ends (e ∷ es) [] vertices = []
states_at_ends (e ∷ es) (state ∷ states) vertices = state_at_ends vertices e state ∷ states_at_ends es states vertices

-- by edge: Inside where it is inside, else Outside where it is free, else Undecided
abbrev pub states_of : Graph → Decided → List EdgeState
states_of g d = states_at_ends g.edges d.edges d.vertices

-- the edge is neither inside nor free
abbrev pub IsUndecided : Graph → Decided → ℕ → Type 0
IsUndecided g d n = slice_get (states_of g d) n ≡ Some Undecided

-- the vertex is neither required, as the root is, nor missed
pub record IsVertexUndecided (g : Graph) (d : Decided) (v : ℕ) : Type 0 where
  pub vertex : v < g.vertices
  pub not_required : IsRequired g d v → ⊥
  pub not_missed : IsMissed d v → ⊥

-- the edge is in the set and one of its ends is reached by it
abbrev pub InRootPart : Graph → List Bool → ℕ → Type 0
InRootPart g set n = (e : Edge) × (slice_get set n ≡ Some true) × (slice_get g.edges n ≡ Some e) ×
    (Reaches g set e.a ⊎ Reaches g set e.b)

-- every inside edge is in the set's root part and no outside edge is, every met vertex is reached and no missed vertex
-- is
pub record Agrees (g : Graph) (d : Decided) (set : List Bool) : Type 0 where
  pub inside : (n : ℕ) → slice_get d.edges n ≡ Some Inside → InRootPart g set n
  pub outside : (n : ℕ) → slice_get d.edges n ≡ Some Outside → InRootPart g set n → ⊥
  pub met : (v : ℕ) → IsMet d v → Reaches g set v
  pub missed : (v : ℕ) → IsMissed d v → Reaches g set v → ⊥

-- no network that agrees with the decision is shorter
abbrev pub IsLowerBoundUnder : Graph → Decided → ℕ → Type 0
IsLowerBoundUnder g d bound =
    (other : List Bool) → Agrees g d other → IsNetwork g other → bound ≤ length_of g other

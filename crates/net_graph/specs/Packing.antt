-- Packings of weighted directed cuts (after the directed cuts of Wong 1984; the wording is this project's own).
-- An edge is two arcs, one from each end to the other. An arc is named by the vertices that it leads from and to.
use Rattle.std.specs.Prelude.{ℕ, ◌≡◌, ◌+◌, ◌<◌, ◌≤◌, Bool, true, false, not, ◌&&◌, List, [], ◌∷◌, sum_by, slice_get, Option, Some, None, IfSome, All, if◌then◌else◌, length}
use Rattle.net_graph.specs.declared.edge.Edge.{Edge}
use Rattle.net_graph.specs.declared.state.EdgeState.{EdgeState}
use Rattle.net_graph.specs.declared.state.EdgeState.TheVariants.{Undecided, Inside, Outside}
use Rattle.net_graph.specs.declared.packing.Cut.{Cut}
use Rattle.net_graph.specs.Flags.{has}
use Rattle.net_graph.specs.Graph.{Graph, root_of}
use Rattle.net_graph.specs.Decision.{Decided, IsRequired, states_of}

-- a vertex set that doesn't hold the root and holds a required vertex
pub record IsCut (g : Graph) (d : Decided) (members : List Bool) : Type 0 where
  pub size : length members ≡ g.vertices
  pub rootless : has members (root_of g) ≡ false
  pub required : (v : ℕ) × IsRequired g d v × (has members v ≡ true)

-- whether the arc from u to v enters the set: it holds v and not u
abbrev pub enters : List Bool → ℕ → ℕ → Bool
enters members u v = has members v && not (has members u)

-- the sum of the weights of the cuts that the arc from u to v enters
abbrev pub load : List Cut → ℕ → ℕ → ℕ
load packing u v = sum_by (λ c. if enters c.members u v then c.weight else 0) packing

-- the room of each arc of an edge: the length of an undecided edge and nothing for an inside edge; an arc of a free
-- edge has no limit
abbrev pub room_of : EdgeState → Edge → Option ℕ
room_of Undecided e = Some e.length
room_of Inside e = Some 0
room_of Outside e = None

-- no more than the room of the edge's arcs, where there is a limit
abbrev pub IsWithinRoom : EdgeState → Edge → ℕ → Type 0
IsWithinRoom state e amount = IfSome (room_of state e) (λ room. amount ≤ room)

-- every member is a cut with a weight of at least 1, and no arc is loaded above its room
pub record IsFeasible (g : Graph) (d : Decided) (packing : List Cut) : Type 0 where
  pub cuts : All (λ c. (0 < c.weight) × IsCut g d c.members) packing
  pub room : (n : ℕ) (e : Edge) (state : EdgeState) → slice_get g.edges n ≡ Some e →
      slice_get (states_of g d) n ≡ Some state →
      IsWithinRoom state e (load packing e.a e.b) × IsWithinRoom state e (load packing e.b e.a)

-- the sum of the lengths of the inside edges
abbrev pub inside_length : List Edge → List EdgeState → ℕ
inside_length [] states = 0
inside_length (e ∷ es) [] = 0
inside_length (e ∷ es) (Inside ∷ states) = e.length + inside_length es states
inside_length (e ∷ es) (Undecided ∷ states) = inside_length es states
inside_length (e ∷ es) (Outside ∷ states) = inside_length es states

-- the length of the inside edges and the sum of the weights
abbrev pub packing_value : Graph → Decided → List Cut → ℕ
packing_value g d packing = inside_length g.edges d.edges + sum_by (λ c. c.weight) packing

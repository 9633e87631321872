-- What is left of a packing where one more edge or vertex is decided.
use Rattle.std.specs.Prelude.{ℕ, ◌≡◌, ◌*◌, Bool, not, ◌||◌, List, [], ◌∷◌, filter, length, nat_le, ◌⊎◌, if◌then◌else◌}
use Rattle.std.specs.List.{list_any}
use Rattle.net_graph.specs.declared.edge.Edge.{Edge}
use Rattle.net_graph.specs.declared.packing.Cut.{Cut}
use Rattle.net_graph.specs.declared.state.EdgeState.{EdgeState}
use Rattle.net_graph.specs.declared.state.EdgeState.TheVariants.{Undecided, Inside, Outside}
use Rattle.net_graph.specs.declared.state.VertexState.{VertexState}
use Rattle.net_graph.specs.Graph.{Graph}
use Rattle.net_graph.specs.Decision.{Decided, IsUndecided, IsVertexUndecided, with_edge, with_vertex}
use Rattle.net_graph.specs.Packing.{enters}

-- the edges that are inside
abbrev pub inside_edges : List Edge → List EdgeState → List Edge
inside_edges [] states = []
inside_edges (e ∷ es) [] = []
inside_edges (e ∷ es) (Inside ∷ states) = e ∷ inside_edges es states
inside_edges (e ∷ es) (Undecided ∷ states) = inside_edges es states
inside_edges (e ∷ es) (Outside ∷ states) = inside_edges es states

-- an arc of the edge enters the set
abbrev pub is_entered_along : List Bool → Edge → Bool
is_entered_along members e = enters members e.a e.b || enters members e.b e.a

-- the cuts, in order, that no arc of one of these edges enters
abbrev pub unentered : List Edge → List Cut → List Cut
unentered edges packing = filter (λ c. not (list_any (is_entered_along c.members) edges)) packing

-- the list, where it has no more than twice as many cuts as the graph has edges, else the empty one
abbrev pub at_most_twice : Graph → List Cut → List Cut
at_most_twice g packing = if nat_le (length packing) (2 * length g.edges) then packing else []

-- The packing that a packing carries to a decision: its cuts, in order, that no arc of an inside edge enters; where
-- more than two for each edge remain, no cut.
abbrev pub carried : Graph → Decided → List Cut → List Cut
carried g d packing = at_most_twice g (unentered (inside_edges g.edges d.edges) packing)

-- the decision and one undecided edge or vertex more
abbrev pub DecidesOneMore : Graph → Decided → Decided → Type 0
DecidesOneMore g before now =
    ((n : ℕ) × (state : EdgeState) × IsUndecided g before n × (now ≡ with_edge before n state))
    ⊎ ((v : ℕ) × (state : VertexState) × IsVertexUndecided g before v × (now ≡ with_vertex before v state))

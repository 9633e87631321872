-- The required vertices where an edge is taken in are those of nothing decided and its ends.
use Rattle.std.proofs.Common.{ℕ, ◌≡◌, ◌<◌, ◌⊎◌, Bool, true, false, List, length, replicate, slice_get, slice_set, Some, inl, inr, ⊎_elim, sym, arith}
use Rattle.std.proofs.lemmas.List.{length-replicate}
use Rattle.std.proofs.lemmas.Option.{same_Some}
use Rattle.net_graph.specs.declared.edge.Edge.{Edge}
use Rattle.net_graph.specs.declared.state.EdgeState.TheVariants.{Undecided, Inside}
use Rattle.net_graph.specs.declared.state.VertexState.TheVariants.{Met}
use Rattle.net_graph.specs.declared.state.VertexState.TheVariants as vertex
use Rattle.net_graph.specs.Adds.{Adds}
use Rattle.net_graph.specs.AddsLaws.{Adds-iff, Adds-one, Adds-then}
use Rattle.net_graph.specs.DecidingLaws.{IsRequired-with_edge}
use Rattle.net_graph.specs.Decision.{IsRequired, nothing_decided}
use Rattle.net_graph.specs.EntryLaws.{slice_get-set_same}
use Rattle.net_graph.specs.Graph.{Graph}
use Rattle.edge_slack.specs.EdgeBound.{edge_taken_in}
use Rattle.edge_slack.proofs.EdgeBoundLemmas.{IsUndecided-nothing, state_taken_in, vertex_taken_in}

-- required before, or an end of the edge
abbrev pub OrAnEnd : Graph → Edge → ℕ → Type 0
OrAnEnd g x v = (IsRequired g (nothing_decided g) v ⊎ (v ≡ x.a)) ⊎ (v ≡ x.b)

-- an end of the edge is required
end_required : (g : Graph) (e : ℕ) (x : Edge) (v : ℕ) → slice_get g.edges e ≡ Some x → e < length g.edges →
    (x.a ≡ v) ⊎ (x.b ≡ v) → IsRequired g (edge_taken_in g e) v
end_required g e x v at within ends = grind (arith, length-replicate (length g.edges) Undecided, slice_get-set_same)

-- no other vertex becomes required
required_before : (g : Graph) (e : ℕ) (x : Edge) (v : ℕ) → slice_get g.edges e ≡ Some x → e < length g.edges →
    IsRequired g (edge_taken_in g e) v → OrAnEnd g x v
required_before g e x v at within (inl terminal) = inl (inl (inl terminal))
required_before g e x v at within (inr (inl (n, y, inside, there, ends))) =
    grind (arith, same_Some, state_taken_in g e n Inside within inside)
required_before g e x v at within (inr (inr met)) =
    let not : Met ≡ vertex.Undecided = vertex_taken_in g e v Met met in cc

-- so its ends alone are put into the set
pub ends_put_in : (g : Graph) (e : ℕ) (x : Edge) (set : List Bool) → slice_get g.edges e ≡ Some x → e < length g.edges →
    x.a < g.vertices → x.b < g.vertices → Adds (IsRequired g (nothing_decided g)) (replicate g.vertices false) set →
    Adds (IsRequired g (edge_taken_in g e)) (replicate g.vertices false) (slice_set (slice_set set x.a true) x.b true)
ends_put_in g e x set at within low_a low_b adds =
    let none : List Bool = replicate g.vertices false in
    let Was : ℕ → Type 0 = IsRequired g (nothing_decided g) in
    let mid : List Bool = slice_set set x.a true in
    let size = length-replicate g.vertices false in
    let one : Adds (λ v. v ≡ x.a) set mid = Adds-one set x.a (omega (arith, adds.size)) in
    let first : Adds (λ v. Was v ⊎ (v ≡ x.a)) none mid =
    Adds-then Was (λ v. v ≡ x.a) (λ v. Was v ⊎ (v ≡ x.a)) none set mid adds one (λ v is. inl is) (λ v is. inr is) (λ v is. is) in
    let two : Adds (λ v. v ≡ x.b) mid (slice_set mid x.b true) = Adds-one mid x.b (omega (arith, first.size)) in
    Adds-iff (OrAnEnd g x) (IsRequired g (edge_taken_in g e)) none (slice_set mid x.b true)
    (λ v is. ⊎_elim
    (λ before. ⊎_elim (λ was. IsRequired-with_edge g (nothing_decided g) e v Inside (IsUndecided-nothing g e within) was)
    (λ a. end_required g e x v at within (inl (sym a))) before)
    (λ b. end_required g e x v at within (inr (sym b))) is)
    (λ v is. required_before g e x v at within is)
    (Adds-then (λ v. Was v ⊎ (v ≡ x.a)) (λ v. v ≡ x.b) (OrAnEnd g x) none mid (slice_set mid x.b true) first two
    (λ v is. inl is) (λ v is. inr is) (λ v is. is))

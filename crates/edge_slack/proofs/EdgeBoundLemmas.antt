-- The decision that takes one edge in: which sets agree with it, and that no cut closes an ascent under it.
use Rattle.std.proofs.Common.{ℕ, ◌≡◌, ◌<◌, ◌≤◌, ◌⊎◌, Bool, true, false, List, length, slice_get, Some, inl, inr, ⊎_elim, refl, sym, subst, ◌∙◌, arith}
use Rattle.std.proofs.lemmas.Bool.{cases_eq, false_from_ne_true}
use Rattle.std.proofs.lemmas.List.{length-replicate}
use Rattle.std.proofs.lemmas.Option.{same_Some, slice_get_within}
use Rattle.net_graph.specs.declared.edge.Edge.{Edge}
use Rattle.net_graph.specs.declared.packing.Cut.{Cut}
use Rattle.net_graph.specs.declared.state.EdgeState.{EdgeState}
use Rattle.net_graph.specs.declared.state.EdgeState.TheVariants.{Undecided, Inside, Outside}
use Rattle.net_graph.specs.declared.state.VertexState.{VertexState}
use Rattle.net_graph.specs.declared.state.VertexState.TheVariants.{Met, Missed}
use Rattle.net_graph.specs.declared.state.VertexState.TheVariants as vertex
use Rattle.net_graph.specs.EntryLaws.{slice_get-set_same, slice_get-set_other, slice_get-replicate}
use Rattle.net_graph.specs.Flags.{has}
use Rattle.net_graph.specs.Graph.{Graph, root_of, total_of}
use Rattle.net_graph.specs.LengthLaws.{length_of_edges-le-sum}
use Rattle.net_graph.specs.Network.{Links, Reaches}
use Rattle.net_graph.specs.SearchLaws.{Leads-keeps}
use Rattle.net_graph.specs.Decision.{Decided, Agrees, InRootPart, IsDecisionFor, IsFree, IsMissed, IsUndecided, IsLowerBoundUnder, nothing_decided, state_at_ends, states_of}
use Rattle.net_graph.specs.DecisionLaws.{IsDecisionFor-nothing, decided_at, states_of-at, states_of-free, states_of-inside}
use Rattle.net_graph.specs.Packing.{enters}
use Rattle.net_graph.specs.Saturation.{IsMaximal}
use Rattle.duality.specs.AgreeingLaws.{Reaches-from_required}
use Rattle.dual_ascent.specs.Ascending.{IsClosingCut}
use Rattle.edge_slack.specs.EdgeBound.{edge_taken_in, IsInSomeNetwork, IsLowerBoundWith}

-- an edge of the root part is one of the graph's edges
within-from_root_part : (g : Graph) (set : List Bool) (e : ℕ) → InRootPart g set e → e < length g.edges
within-from_root_part g set e (edge, in_set, at, reached) = slice_get_within g.edges e edge at

-- an edge that is neither inside nor free is undecided
IsUndecided-from : (g : Graph) (d : Decided) (n : ℕ) → IsDecisionFor g d → n < length g.edges →
    (slice_get d.edges n ≡ Some Inside → ⊥) → (IsFree g d n → ⊥) → IsUndecided g d n
IsUndecided-from g d n decision within not_inside not_free =
    let (e, state, at, decided) = decided_at g d n decision within in
    let here : slice_get (states_of g d) n ≡ Some (state_at_ends d.vertices e state) =
    states_of-at g d n e state at decided in
    cases (state_at_ends d.vertices e state) here
  where
    cases : (state : EdgeState) → slice_get (states_of g d) n ≡ Some state → IsUndecided g d n
    cases Undecided is = is
    cases Inside is = absurd (not_inside (states_of-inside g d n is))
    cases Outside is = absurd (not_free (states_of-free g d n is))

-- where nothing is decided an edge is undecided
pub IsUndecided-nothing : (g : Graph) (e : ℕ) → e < length g.edges → IsUndecided g (nothing_decided g) e
IsUndecided-nothing g e within = IsUndecided-from g (nothing_decided g) e (IsDecisionFor-nothing g) within
    (λ inside. let same : Undecided ≡ Inside = slice_get-replicate (length g.edges) e Undecided Inside inside in cc)
    (λ free. ⊎_elim
    (λ (outside : slice_get (nothing_decided g).edges e ≡ Some Outside). let same : Undecided ≡ Outside =
    slice_get-replicate (length g.edges) e Undecided Outside outside in cc)
    (λ (missed : (x : Edge) × (slice_get g.edges e ≡ Some x) × (IsMissed (nothing_decided g) x.a ⊎ IsMissed (nothing_decided g) x.b)).
    ⊎_elim (not_missed missed.0.a) (not_missed missed.0.b) missed.2)
    free)
  where
    not_missed : (v : ℕ) → IsMissed (nothing_decided g) v → ⊥
    not_missed v missed =
        let same : vertex.Undecided ≡ Missed = slice_get-replicate g.vertices v vertex.Undecided Missed missed in cc

-- the state of an edge where one is taken in: it is that edge, or undecided
pub state_taken_in : (g : Graph) (e n : ℕ) (state : EdgeState) → e < length g.edges →
    slice_get (edge_taken_in g e).edges n ≡ Some state → ((n ≡ e) × (state ≡ Inside)) ⊎ (state ≡ Undecided)
state_taken_in g e n state within is = elim (cases_eq n e) [
  | inl here ↦
      let size : e < length (nothing_decided g).edges = omega (arith, length-replicate (length g.edges) Undecided) in
      let written : slice_get (edge_taken_in g e).edges n ≡ Some Inside =
      rw here (slice_get-set_same (nothing_decided g).edges e Inside size) in
      inl (here, same_Some state Inside (sym is ∙ written))
  | inr apart ↦
      inr (sym (slice_get-replicate (length g.edges) n Undecided state
      (sym (slice_get-set_other (nothing_decided g).edges e n Inside apart) ∙ is)))
]

-- no vertex is met or missed
pub vertex_taken_in : (g : Graph) (e v : ℕ) (state : VertexState) → slice_get (edge_taken_in g e).vertices v ≡ Some state →
    state ≡ vertex.Undecided
vertex_taken_in g e v state is = sym (slice_get-replicate g.vertices v vertex.Undecided state is)

-- a set whose root part holds the edge agrees
pub Agrees-taken_in : (g : Graph) (e : ℕ) (set : List Bool) → InRootPart g set e → Agrees g (edge_taken_in g e) set
Agrees-taken_in g e set held =
    let within : e < length g.edges = within-from_root_part g set e held in
    record {
      inside = λ n inside. ⊎_elim
          (λ (here : (n ≡ e) × (Inside ≡ Inside)). subst (InRootPart g set) (sym here.0) held)
          (λ (other : Inside ≡ Undecided). cc)
          (state_taken_in g e n Inside within inside);
      outside = λ n outside part. ⊎_elim
          (λ (here : (n ≡ e) × (Outside ≡ Inside)). let not : Outside ≡ Inside = here.1 in cc)
          (λ (other : Outside ≡ Undecided). cc)
          (state_taken_in g e n Outside within outside);
      met = λ v met. let not : Met ≡ vertex.Undecided = vertex_taken_in g e v Met met in cc;
      missed = λ v missed reached. let not : Missed ≡ vertex.Undecided = vertex_taken_in g e v Missed missed in cc;
    }

-- no edge is free
not_free : (g : Graph) (e n : ℕ) → e < length g.edges → IsFree g (edge_taken_in g e) n → ⊥
not_free g e n within free =
    ⊎_elim
    (λ (outside : slice_get (edge_taken_in g e).edges n ≡ Some Outside). ⊎_elim
    (λ (here : (n ≡ e) × (Outside ≡ Inside)). let not : Outside ≡ Inside = here.1 in cc)
    (λ (other : Outside ≡ Undecided). cc)
    (state_taken_in g e n Outside within outside))
    (λ (missed : (x : Edge) × (slice_get g.edges n ≡ Some x) × (IsMissed (edge_taken_in g e) x.a ⊎ IsMissed (edge_taken_in g e) x.b)).
    ⊎_elim (not_missed missed.0.a) (not_missed missed.0.b) missed.2)
    free
  where
    not_missed : (v : ℕ) → IsMissed (edge_taken_in g e) v → ⊥
    not_missed v missed = let not : Missed ≡ vertex.Undecided = vertex_taken_in g e v Missed missed in cc

-- a set that no arc enters holds no vertex that is reached, if not the root
stays_out : (g : Graph) (set members : List Bool) (v : ℕ) → has members (root_of g) ≡ false →
    ((n : ℕ) (e : Edge) → slice_get g.edges n ≡ Some e →
    (enters members e.a e.b ≡ true) ⊎ (enters members e.b e.a ≡ true) → ⊥) →
    Reaches g set v → has members v ≡ false
stays_out g set members v rootless shut reached =
    Leads-keeps (Links g set) (λ x. has members x ≡ false) (root_of g) v rootless step reached
  where
    entered : (u w : ℕ) → has members u ≡ false → has members w ≡ true → enters members u w ≡ true
    entered u w out inside = rw (out, inside) refl

    step : (u w : ℕ) → has members u ≡ false → Links g set u w → has members w ≡ false
    step u w out (n, e, in_set, at, ends) = false_from_ne_true (has members w) (λ inside. ⊎_elim
        (λ (along : (e.a ≡ u) × (e.b ≡ w)). shut n e at (inl (rw (along.0, along.1) (entered u w out inside))))
        (λ (against : (e.a ≡ w) × (e.b ≡ u)). shut n e at (inr (rw (against.0, against.1) (entered u w out inside))))
        ends)

-- no cut closes an ascent where some network's root part holds the edge
closes_nowhere : (g : Graph) (e : ℕ) (members : List Bool) → IsInSomeNetwork g e →
    IsClosingCut g (edge_taken_in g e) members → ⊥
closes_nowhere g e members (set, network, held) closing =
    let (v, required, inside) = closing.cut.required in
    let within : e < length g.edges = within-from_root_part g set e held in
    let reached : Reaches g set v =
    Reaches-from_required g (edge_taken_in g e) set v (Agrees-taken_in g e set held) network required in
    let out : has members v ≡ false = stays_out g set members v closing.cut.rootless
    (λ n x at enter. not_free g e n within (closing.free n x at enter)) reached in
    cc

-- an ascent under the decision doesn't close, so its packing is maximal
pub IsMaximal-not_closed : (g : Graph) (e : ℕ) (d : Decided) (closed : Bool) (packing : List Cut) →
    IsInSomeNetwork g e → d ≡ edge_taken_in g e → (closed ≡ false → IsMaximal g d packing) →
    (closed ≡ true → (members : List Bool) × IsClosingCut g d members) → IsMaximal g (edge_taken_in g e) packing
IsMaximal-not_closed g e d closed packing some is maximal closing =
    subst (λ x. IsMaximal g x packing) is (maximal (false_from_ne_true closed (λ shut.
    let cut = closing shut in
    closes_nowhere g e cut.0 some (subst (λ x. IsClosingCut g x cut.0) is cut.1))))

-- a lower bound under the decision is one of the networks that use the edge
pub IsLowerBoundWith-under : (g : Graph) (e bound : ℕ) → IsLowerBoundUnder g (edge_taken_in g e) bound →
    IsLowerBoundWith g e bound
IsLowerBoundWith-under g e bound under other network held = under other (Agrees-taken_in g e other held) network

-- .. so it is no more than all edges together
pub bound-le-total : (g : Graph) (e bound : ℕ) → IsInSomeNetwork g e →
    IsLowerBoundUnder g (edge_taken_in g e) bound → bound ≤ total_of g
bound-le-total g e bound (set, network, held) under =
    omega (arith, IsLowerBoundWith-under g e bound under set network held, length_of_edges-le-sum g.edges set)

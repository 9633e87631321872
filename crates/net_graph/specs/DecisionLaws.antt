-- Laws of decisions: which edges are free, what is undecided, and that one more state keeps a decision one.
use Rattle.std.specs.Prelude.{ℕ, zero, suc, ◌≡◌, ◌≢◌, ◌<◌, ◌↔◌, ◌⊎◌, Bool, true, false, List, [], ◌∷◌, length, replicate, slice_get, slice_set, Option, Some, Contains}
use Rattle.std.proofs.Common.{refl, sym, ap, ◌∙◌, inl, inr, ⊎_elim, arith, length-set}
use Rattle.std.proofs.lemmas.Bool.{cases_eq, cases_Bool, or_cases, or_left, or_right}
use Rattle.std.proofs.lemmas.List.{length-replicate}
use Rattle.std.proofs.lemmas.Option.{same_Some, slice_get-get_or, slice_get_within}
use Rattle.net_graph.specs.declared.edge.Edge.{Edge}
use Rattle.net_graph.specs.declared.state.EdgeState.{EdgeState}
use Rattle.net_graph.specs.declared.state.EdgeState.TheVariants.{Undecided, Inside, Outside}
use Rattle.net_graph.specs.declared.state.VertexState.{VertexState}
use Rattle.net_graph.specs.declared.state.VertexState.TheVariants.{Met, Missed}
use Rattle.net_graph.specs.declared.state.VertexState.TheVariants as vertex
use Rattle.net_graph.specs.Graph.{Graph}
use Rattle.net_graph.specs.Decision.{Decided, IsMet, IsMissed, IsFree, IsRequired, EndsInside, IsDecisionFor, IsUndecided, IsVertexUndecided, Agrees, nothing_decided, with_edge, with_vertex, is_missed, has_missed_end, state_at_ends, states_at_ends, states_of}
use Rattle.net_graph.specs.EntryLaws.{slice_get-set_same, slice_get-set_other, slice_get-replicate}

-- the test of a missed vertex
is_missed-true : (found : Option VertexState) → is_missed found ≡ true → found ≡ Some Missed
is_missed-true (Some Missed) is = refl
is_missed-true _ is = cc

-- an edge has a missed end where the test says so
pub has_missed_end-iff : (d : Decided) (e : Edge) →
    (has_missed_end d.vertices e ≡ true) ↔ (IsMissed d e.a ⊎ IsMissed d e.b)
has_missed_end-iff d e = grind (arith, is_missed-true, or_cases, or_left, or_right)

-- no other edge becomes inside at its ends
state_at_ends-inside : (vertices : List VertexState) (e : Edge) (state : EdgeState) →
    state_at_ends vertices e state ≡ Inside → state ≡ Inside
state_at_ends-inside vertices e Inside is = refl
state_at_ends-inside vertices e Outside is = is
state_at_ends-inside vertices e Undecided is = grind arith

-- an edge is free at its ends where it is outside or one of them is missed
state_at_ends-outside : (vertices : List VertexState) (e : Edge) (state : EdgeState) →
    state_at_ends vertices e state ≡ Outside →
    (state ≡ Outside) ⊎ (has_missed_end vertices e ≡ true)
state_at_ends-outside vertices e Outside is = inl refl
state_at_ends-outside vertices e Inside is = inl is
state_at_ends-outside vertices e Undecided is = grind arith

-- an edge is undecided at its ends where it is so without them and none is missed
pub state_at_ends-undecided : (vertices : List VertexState) (e : Edge) (state : EdgeState) →
    state_at_ends vertices e state ≡ Undecided →
    (state ≡ Undecided) × (has_missed_end vertices e ≡ false)
state_at_ends-undecided vertices e Inside is = cc
state_at_ends-undecided vertices e Outside is = cc
state_at_ends-undecided vertices e Undecided is = grind arith

states_at_ends-at : (es : List Edge) (states : List EdgeState) (vertices : List VertexState) (n : ℕ) (e : Edge)
    (state : EdgeState) → slice_get es n ≡ Some e → slice_get states n ≡ Some state →
    slice_get (states_at_ends es states vertices) n ≡ Some (state_at_ends vertices e state)
states_at_ends-at [] states vertices n e state at decided = cc
states_at_ends-at (d ∷ es) [] vertices n e state at decided = cc
states_at_ends-at (d ∷ es) (s ∷ states) vertices zero e state at decided =
    rw (same_Some d e at, same_Some s state decided) refl
states_at_ends-at (d ∷ es) (s ∷ states) vertices (suc n) e state at decided =
    states_at_ends-at es states vertices n e state at decided

-- the state of an edge, by what is decided of it and of its ends
pub states_of-at : (g : Graph) (d : Decided) (n : ℕ) (e : Edge) (state : EdgeState) → slice_get g.edges n ≡ Some e →
    slice_get d.edges n ≡ Some state → slice_get (states_of g d) n ≡ Some (state_at_ends d.vertices e state)
states_of-at g d n e state at decided = states_at_ends-at g.edges d.edges d.vertices n e state at decided

states_at_ends-parts : (es : List Edge) (states : List EdgeState) (vertices : List VertexState) (n : ℕ)
    (state : EdgeState) → slice_get (states_at_ends es states vertices) n ≡ Some state →
    (e : Edge) × (bare : EdgeState) × (slice_get es n ≡ Some e) × (slice_get states n ≡ Some bare) ×
    (state_at_ends vertices e bare ≡ state)
states_at_ends-parts [] states vertices n state is = cc
states_at_ends-parts (e ∷ es) [] vertices n state is = cc
states_at_ends-parts (e ∷ es) (bare ∷ states) vertices zero state is = (e, bare, refl, refl, same_Some _ state is)
states_at_ends-parts (e ∷ es) (bare ∷ states) vertices (suc n) state is =
    states_at_ends-parts es states vertices n state is

-- .. and back: what is decided of an edge whose state is known
pub states_of-parts : (g : Graph) (d : Decided) (n : ℕ) (state : EdgeState) → slice_get (states_of g d) n ≡ Some state →
    (e : Edge) × (bare : EdgeState) × (slice_get g.edges n ≡ Some e) × (slice_get d.edges n ≡ Some bare) ×
    (state_at_ends d.vertices e bare ≡ state)
states_of-parts g d n state is = states_at_ends-parts g.edges d.edges d.vertices n state is

length-states_at_ends : (es : List Edge) (states : List EdgeState) (vertices : List VertexState) →
    length states ≡ length es →
    length (states_at_ends es states vertices) ≡ length es
length-states_at_ends [] states vertices size = refl
length-states_at_ends (e ∷ es) [] vertices size = size
length-states_at_ends (e ∷ es) (state ∷ states) vertices size =
    let rest : length states ≡ length es = omega arith in
    omega (arith, length-states_at_ends es states vertices rest)

-- one state for each edge
pub length-states_of : (g : Graph) (d : Decided) → length d.edges ≡ length g.edges →
    length (states_of g d) ≡ length g.edges
length-states_of g d size = length-states_at_ends g.edges d.edges d.vertices size

-- each edge has a state of its own
pub decided_at : (g : Graph) (d : Decided) (n : ℕ) → IsDecisionFor g d → n < length g.edges →
    (e : Edge) × (state : EdgeState) × (slice_get g.edges n ≡ Some e) × (slice_get d.edges n ≡ Some state)
decided_at g d n decision within =
    let none : Edge = record { a = 0; b = 0; length = 0 } in
    (_, _, slice_get-get_or g.edges n none within, slice_get-get_or d.edges n Undecided (omega (arith, decision.edges)))

-- an edge's state is Inside where it is inside
pub states_of-inside : (g : Graph) (d : Decided) (n : ℕ) → slice_get (states_of g d) n ≡ Some Inside →
    slice_get d.edges n ≡ Some Inside
states_of-inside g d n is = grind (arith, states_of-parts g d n Inside is, state_at_ends-inside)

-- .. and only there
pub states_of-from_inside : (g : Graph) (d : Decided) (n : ℕ) → IsDecisionFor g d → slice_get d.edges n ≡ Some Inside →
    slice_get (states_of g d) n ≡ Some Inside
states_of-from_inside g d n decision inside =
    let within : n < length g.edges = omega (arith, slice_get_within d.edges n Inside inside, decision.edges) in
    let (e, state, at, decided) = decided_at g d n decision within in
    states_of-at g d n e Inside at inside

-- an edge's state is Outside where it is free
pub states_of-free : (g : Graph) (d : Decided) (n : ℕ) → slice_get (states_of g d) n ≡ Some Outside → IsFree g d n
states_of-free g d n is = grind (arith, states_of-parts g d n Outside is, has_missed_end-iff, state_at_ends-outside)

-- a missed end makes every edge but an inside one free
state_at_missed : (vertices : List VertexState) (e : Edge) (state : EdgeState) →
    has_missed_end vertices e ≡ true → (state ≡ Inside → ⊥) →
    state_at_ends vertices e state ≡ Outside
state_at_missed vertices e Undecided missed other = rw missed refl
state_at_missed vertices e Inside missed other = absurd (other refl)
state_at_missed vertices e Outside missed other = refl

-- .. and only there
pub states_of-from_free : (g : Graph) (d : Decided) (n : ℕ) → IsDecisionFor g d → n < length g.edges → IsFree g d n →
    slice_get (states_of g d) n ≡ Some Outside
states_of-from_free g d n decision within free =
    let (e, state, at, decided) = decided_at g d n decision within in
    ⊎_elim
    (λ (outside : slice_get d.edges n ≡ Some Outside). states_of-at g d n e Outside at outside)
    (λ (missed : (x : Edge) × (slice_get g.edges n ≡ Some x) × (IsMissed d x.a ⊎ IsMissed d x.b)).
    states_of-at g d n missed.0 state missed.1 decided
    ∙ ap Some (state_at_missed d.vertices missed.0 state ((has_missed_end-iff d missed.0).1 missed.2)
    (λ inside. grind arith)))
    free

-- an edge that is undecided by itself is free where one of its ends is missed
pub states_of-from_missed : (g : Graph) (d : Decided) (n : ℕ) (e : Edge) → slice_get g.edges n ≡ Some e →
    slice_get d.edges n ≡ Some Undecided →
    IsMissed d e.a ⊎ IsMissed d e.b → slice_get (states_of g d) n ≡ Some Outside
states_of-from_missed g d n e at decided missed = grind (arith, states_of-at g d n e Undecided, has_missed_end-iff d e)

-- .. and undecided where none is
pub states_of-from_kept : (g : Graph) (d : Decided) (n : ℕ) (e : Edge) → slice_get g.edges n ≡ Some e →
    slice_get d.edges n ≡ Some Undecided →
    (IsMissed d e.a ⊎ IsMissed d e.b → ⊥) → slice_get (states_of g d) n ≡ Some Undecided
states_of-from_kept g d n e at decided kept =
    grind (arith, states_of-at g d n e Undecided, has_missed_end-iff d e, cases_Bool (has_missed_end d.vertices e))

-- an undecided edge is neither inside nor free
pub IsUndecided-parts : (g : Graph) (d : Decided) (n : ℕ) → IsDecisionFor g d → IsUndecided g d n →
    (n < length g.edges) × (slice_get d.edges n ≡ Some Undecided) × (IsFree g d n → ⊥)
IsUndecided-parts g d n decision undecided =
    grind (
      arith,
      states_of-parts g d n Undecided undecided,
      slice_get_within,
      state_at_ends-undecided,
      states_of-from_free,
      same_Some,
    )

-- no end of an undecided edge is missed
pub undecided-not_missed : (g : Graph) (d : Decided) (n : ℕ) (e : Edge) → IsDecisionFor g d → IsUndecided g d n →
    slice_get g.edges n ≡ Some e → IsMissed d e.a ⊎ IsMissed d e.b → ⊥
undecided-not_missed g d n e decision undecided at missed =
    (IsUndecided-parts g d n decision undecided).2 (inr (e, at, missed))

-- where nothing is decided no edge is inside and no vertex is met or missed
no_edge_decided : (g : Graph) (n : ℕ) (state : EdgeState) →
    slice_get (nothing_decided g).edges n ≡ Some state → Undecided ≡ state
no_edge_decided g n state is = slice_get-replicate (length g.edges) n Undecided state is

no_vertex_decided : (g : Graph) (v : ℕ) (state : VertexState) →
    slice_get (nothing_decided g).vertices v ≡ Some state → vertex.Undecided ≡ state
no_vertex_decided g v state is = slice_get-replicate g.vertices v vertex.Undecided state is

-- nothing decided is a decision on each graph
pub IsDecisionFor-nothing : (g : Graph) → IsDecisionFor g (nothing_decided g)
IsDecisionFor-nothing g =
    grind (
      arith,
      length-replicate (length g.edges) Undecided,
      length-replicate g.vertices vertex.Undecided,
      no_vertex_decided,
    )

-- .. with which every edge set agrees
pub Agrees-nothing : (g : Graph) (set : List Bool) → Agrees g (nothing_decided g) set
Agrees-nothing g set = grind (arith, no_edge_decided, no_vertex_decided)

-- .. and every edge is undecided
pub states_of-nothing : (g : Graph) → states_of g (nothing_decided g) ≡ replicate (length g.edges) Undecided
states_of-nothing g = each g.edges
  where
    none_missed : (size v : ℕ) → is_missed (slice_get (replicate size vertex.Undecided) v) ≡ false
    none_missed zero v = refl
    none_missed (suc size) zero = refl
    none_missed (suc size) (suc v) = none_missed size v

    each : (es : List Edge) →
        states_at_ends es (replicate (length es) Undecided) (replicate g.vertices vertex.Undecided) ≡
        replicate (length es) Undecided
    each [] = refl
    each (e ∷ es) = rw (none_missed g.vertices e.a, none_missed g.vertices e.b) (ap (λ xs. Undecided ∷ xs) (each es))

-- what is required under a decision with fewer inside edges and fewer met vertices is required
pub IsRequired-fewer : (g : Graph) (fewer more : Decided) (v : ℕ) →
    ((n : ℕ) → slice_get fewer.edges n ≡ Some Inside → slice_get more.edges n ≡ Some Inside) →
    (IsMet fewer v → IsMet more v) → IsRequired g fewer v → IsRequired g more v
IsRequired-fewer g fewer more v inside met required = grind arith

-- a vertex met or missed in a decision that changes another vertex is so before
vertex_before : (d : Decided) (v w : ℕ) (state is : VertexState) → v < length d.vertices → (state ≡ is → ⊥) →
    slice_get (with_vertex d v state).vertices w ≡ Some is → slice_get d.vertices w ≡ Some is
vertex_before d v w state is within other found =
    grind (arith, cases_eq w v, slice_get-set_same d.vertices v state within, same_Some, slice_get-set_other)

-- an edge inside in a decision that changes another edge is so before
edge_before : (d : Decided) (n k : ℕ) (state : EdgeState) → k ≢ n →
    slice_get (with_edge d n state).edges k ≡ Some Inside →
    slice_get d.edges k ≡ Some Inside
edge_before d n k state apart found = sym (slice_get-set_other d.edges n k state apart) ∙ found

-- an undecided edge may be inside: its ends become required, and none is missed
pub IsDecisionFor-with_inside : (g : Graph) (d : Decided) (n : ℕ) → IsDecisionFor g d → IsUndecided g d n →
    IsDecisionFor g (with_edge d n Inside)
IsDecisionFor-with_inside g d n decision undecided = record {
  edges = length-set d.edges n Inside ∙ decision.edges;
  vertices = decision.vertices;
  missed = λ v missed required. ⊎_elim
      (λ (terminal : Contains g.terminals v). decision.missed v missed (inl terminal))
      (λ (rest : EndsInside g (with_edge d n Inside) v ⊎ IsMet d v). ⊎_elim
      (λ (ends : EndsInside g (with_edge d n Inside) v). elim (cases_eq ends.0 n) [
        | inl here ↦
            let at : slice_get g.edges n ≡ Some ends.1 = ap (slice_get g.edges) (sym here) ∙ ends.3 in
            undecided-not_missed g d n ends.1 decision undecided at (⊎_elim
            (λ (a : ends.1.a ≡ v). inl (ap (slice_get d.vertices) a ∙ missed))
            (λ (b : ends.1.b ≡ v). inr (ap (slice_get d.vertices) b ∙ missed))
            ends.4)
        | inr apart ↦
            decision.missed v missed (inr (inl
            (ends.0, ends.1, edge_before d n ends.0 Inside apart ends.2, ends.3, ends.4)))
      ])
      (λ (met : IsMet d v). decision.missed v missed (inr (inr met)))
      rest)
      required;
}

-- an edge may be outside: no more is required
pub IsDecisionFor-with_outside : (g : Graph) (d : Decided) (n : ℕ) → IsDecisionFor g d → n < length d.edges →
    IsDecisionFor g (with_edge d n Outside)
IsDecisionFor-with_outside g d n decision within = record {
  edges = length-set d.edges n Outside ∙ decision.edges;
  vertices = decision.vertices;
  missed = λ v missed required.
      decision.missed v missed (IsRequired-fewer g (with_edge d n Outside) d v inside_before (λ met. met) required);
}
  where
    inside_before : (k : ℕ) → slice_get (with_edge d n Outside).edges k ≡ Some Inside →
        slice_get d.edges k ≡ Some Inside
    inside_before k inside = elim (cases_eq k n) [
      | inl here ↦
          let written : slice_get (slice_set d.edges n Outside) k ≡ Some Outside =
          rw here (slice_get-set_same d.edges n Outside within) in
          let same : Outside ≡ Inside = same_Some _ _ (sym written ∙ inside) in cc
      | inr apart ↦ edge_before d n k Outside apart inside
    ]

-- an undecided vertex may be met: it becomes required, and it isn't missed
pub IsDecisionFor-with_met : (g : Graph) (d : Decided) (v : ℕ) → IsDecisionFor g d → IsVertexUndecided g d v →
    IsDecisionFor g (with_vertex d v Met)
IsDecisionFor-with_met g d v decision undecided = grind (arith, length-set d.vertices v Met, vertex_before, same_Some)

-- an undecided vertex may be missed: it isn't required, and no more is
pub IsDecisionFor-with_missed : (g : Graph) (d : Decided) (v : ℕ) → IsDecisionFor g d →
    IsVertexUndecided g d v → IsDecisionFor g (with_vertex d v Missed)
IsDecisionFor-with_missed g d v decision undecided =
    grind (arith, length-set d.vertices v Missed, IsRequired-fewer, vertex_before, cases_eq, slice_get-set_other)

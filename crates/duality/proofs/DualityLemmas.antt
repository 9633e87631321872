-- Weak duality: what the edges of a network carry, and the inside edges, are no longer than the network.
use Rattle.std.proofs.Common.{ℕ, zero, suc, ◌≡◌, ◌+◌, ◌≤◌, ◌⊎◌, ◌↔◌, ⊎_elim, le_refl, Bool, true, false, List, [], ◌∷◌, length, slice_get, Some, refl, ap, arith}
use Rattle.std.proofs.lemmas.List.Elements.{recursion_from_All}
use Rattle.net_graph.specs.declared.edge.Edge.{Edge}
use Rattle.net_graph.specs.declared.state.EdgeState.{EdgeState}
use Rattle.net_graph.specs.declared.state.EdgeState.TheVariants.{Undecided, Inside, Outside}
use Rattle.net_graph.specs.declared.packing.Cut.{Cut}
use Rattle.net_graph.specs.Graph.{Graph}
use Rattle.net_graph.specs.Network.{length_of_edges}
use Rattle.net_graph.specs.Decision.{Decided, IsMissed, IsFree, InRootPart, Agrees, states_of}
use Rattle.net_graph.specs.DecisionLaws.{length-states_of, states_of-inside, states_of-from_inside, states_of-free}
use Rattle.net_graph.specs.Packing.{IsWithinRoom, IsFeasible, inside_length}
use Rattle.duality.specs.Duality.{WeakDuality}
use Rattle.duality.proofs.Hops.{is_away, is_away_one_way, Reaches-from_away}
use Rattle.duality.proofs.Exchange.{edge_load, edge_load-le, set_load, sum-le-set_load}
use Rattle.duality.specs.AgreeingLaws.{Reaches-from_root_part}
use Rattle.duality.proofs.Reached.{entries_from_cuts}

-- how much of an edge's length is not yet counted as inside
abbrev pub open_length : EdgeState → Edge → ℕ
open_length Undecided e = e.length
open_length Inside e = 0
open_length Outside e = 0

-- no more than the room of an edge that is not free is no more than its open length
open_length-from_room : (state : EdgeState) (e : Edge) (amount : ℕ) → IsWithinRoom state e amount → (state ≡ Outside → ⊥) →
    amount ≤ open_length state e
open_length-from_room Undecided e amount room open_state = room
open_length-from_room Inside e amount room open_state = omega arith
open_length-from_room Outside e amount room open_state = absurd (open_state refl)

-- no free edge is in the root part of an agreeing set: no outside edge is, and both ends of an edge of the root part are reached
free_apart : (g : Graph) (d : Decided) (set : List Bool) (n : ℕ) → Agrees g d set → IsFree g d n → InRootPart g set n → ⊥
free_apart g d set n agrees free part =
    ⊎_elim
    (λ (outside : slice_get d.edges n ≡ Some Outside). agrees.outside n outside part)
    (λ (missed : (e : Edge) × (slice_get g.edges n ≡ Some e) × (IsMissed d e.a ⊎ IsMissed d e.b)).
    let reached = Reaches-from_root_part g set n missed.0 part missed.1 in
    ⊎_elim (λ a. agrees.missed missed.0.a a reached.0) (λ b. agrees.missed missed.0.b b reached.1) missed.2)
    free

-- an edge of an agreeing set carries no more than its open length
edge_load-le-open_length : (g : Graph) (d : Decided) (packing : List Cut) (set : List Bool) (hops : ℕ) →
    IsFeasible g d packing → Agrees g d set → (n : ℕ) (e : Edge) (state : EdgeState) →
    slice_get set n ≡ Some true → slice_get g.edges n ≡ Some e → slice_get (states_of g d) n ≡ Some state →
    edge_load (is_away g set hops) packing e ≤ open_length state e
edge_load-le-open_length g d packing set hops feasible agrees n e state in_set in_graph decided =
    grind (arith, feasible.room n e state in_graph decided, free_apart, states_of-free, edge_load-le, is_away g set hops, is_away_one_way g set hops e.a e.b, open_length-from_room, Reaches-from_away)

-- where no edge is inside there is no inside length
inside_length-none : (es : List Edge) (states : List EdgeState) → ((n : ℕ) → slice_get states n ≡ Some Inside → ⊥) →
    inside_length es states ≡ 0
inside_length-none [] states none = refl
inside_length-none (e ∷ es) [] none = refl
inside_length-none (e ∷ es) (Inside ∷ states) none = absurd (none zero refl)
inside_length-none (e ∷ es) (Undecided ∷ states) none = inside_length-none es states (λ n. none (suc n))
inside_length-none (e ∷ es) (Outside ∷ states) none = inside_length-none es states (λ n. none (suc n))

-- the inside edges are in the set, and what its edges carry fits their open length
pub record IsCovered (away : ℕ → ℕ → Bool) (packing : List Cut) (es : List Edge) (states : List EdgeState) (set : List Bool) : Type 0 where
  pub size : length states ≡ length es
  pub inside : (n : ℕ) → slice_get states n ≡ Some Inside → slice_get set n ≡ Some true
  pub carried : (n : ℕ) (e : Edge) (state : EdgeState) → slice_get set n ≡ Some true → slice_get es n ≡ Some e →
      slice_get states n ≡ Some state → edge_load away packing e ≤ open_length state e

-- the same of all edges but the first
IsCovered-rest : {away : ℕ → ℕ → Bool} {packing : List Cut} {e : Edge} {es : List Edge} {state : EdgeState} {states : List EdgeState}
    {flag : Bool} {set : List Bool} → IsCovered away packing (e ∷ es) (state ∷ states) (flag ∷ set) →
    IsCovered away packing es states set
IsCovered-rest covered = record {
  size = omega arith;
  inside = λ n. covered.inside (suc n);
  carried = λ n. covered.carried (suc n);
}

-- then the inside edges and what the set carries are together no longer than the set
length-from_covered : (away : ℕ → ℕ → Bool) (packing : List Cut) (es : List Edge) (states : List EdgeState) (set : List Bool) →
    IsCovered away packing es states set →
    inside_length es states + set_load away packing es set ≤ length_of_edges es set
length-from_covered away packing [] states set covered = omega arith
length-from_covered away packing (e ∷ es) [] set covered = absurd (omega arith)
length-from_covered away packing (e ∷ es) (state ∷ states) [] covered =
    omega (arith, inside_length-none (e ∷ es) (state ∷ states) (λ n inside. let absent = covered.inside n inside in cc))
length-from_covered away packing (e ∷ es) (Inside ∷ states) (false ∷ set) covered = let absent = covered.inside zero refl in cc
length-from_covered away packing (e ∷ es) (Inside ∷ states) (true ∷ set) covered =
    grind (arith, length-from_covered away packing es states set (IsCovered-rest covered), covered.carried zero e Inside refl refl refl)
length-from_covered away packing (e ∷ es) (Undecided ∷ states) (false ∷ set) covered =
    grind (arith, length-from_covered away packing es states set (IsCovered-rest covered))
length-from_covered away packing (e ∷ es) (Undecided ∷ states) (true ∷ set) covered =
    grind (arith, length-from_covered away packing es states set (IsCovered-rest covered), covered.carried zero e Undecided refl refl refl)
length-from_covered away packing (e ∷ es) (Outside ∷ states) (false ∷ set) covered =
    grind (arith, length-from_covered away packing es states set (IsCovered-rest covered))
length-from_covered away packing (e ∷ es) (Outside ∷ states) (true ∷ set) covered =
    grind (arith, length-from_covered away packing es states set (IsCovered-rest covered), covered.carried zero e Outside refl refl refl)

-- the inside edges, seen with their ends or without, have the same length
inside_length-same : (es : List Edge) (bare states : List EdgeState) → length bare ≡ length states →
    ((n : ℕ) → (slice_get bare n ≡ Some Inside) ↔ (slice_get states n ≡ Some Inside)) → inside_length es bare ≡ inside_length es states
inside_length-same [] bare states size same = refl
inside_length-same (e ∷ es) [] [] size same = refl
inside_length-same (e ∷ es) [] (state ∷ states) size same = absurd (omega arith)
inside_length-same (e ∷ es) (own ∷ bare) [] size same = absurd (omega arith)
inside_length-same (e ∷ es) (own ∷ bare) (state ∷ states) size same =
    first own state (same zero) (inside_length-same es bare states (omega arith) (λ n. same (suc n)))
  where
    first : (own state : EdgeState) → ((Some own ≡ Some Inside) ↔ (Some state ≡ Some Inside)) →
        inside_length es bare ≡ inside_length es states →
        inside_length (e ∷ es) (own ∷ bare) ≡ inside_length (e ∷ es) (state ∷ states)
    first Inside Inside here rest = ap (λ n. e.length + n) rest
    first Inside Undecided here rest = let other = here.0 refl in cc
    first Inside Outside here rest = let other = here.0 refl in cc
    first Undecided Inside here rest = let other = here.1 refl in cc
    first Outside Inside here rest = let other = here.1 refl in cc
    first Undecided Undecided here rest = rest
    first Undecided Outside here rest = rest
    first Outside Undecided here rest = rest
    first Outside Outside here rest = rest

-- no network that agrees with a decision is shorter than the value of a feasible packing
pub weak_duality_lem : WeakDuality
weak_duality_lem g d packing decision feasible set agrees network =
    let (hops, entries) = entries_from_cuts g d set packing agrees network (recursion_from_All _ packing feasible.cuts) in
    let size : length d.edges ≡ length (states_of g d) = omega (arith, length-states_of g d decision.edges, decision.edges) in
    omega (
      arith,
      sum-le-set_load g set hops packing (entries hops (le_refl hops)),
      inside_length-same g.edges d.edges (states_of g d) size (λ n. (states_of-from_inside g d n decision, states_of-inside g d n)),
      length-from_covered (is_away g set hops) packing g.edges (states_of g d) set
          (grind (arith, length-states_of g d decision.edges, states_of-inside, edge_load-le-open_length g d packing set hops feasible agrees)),
    )

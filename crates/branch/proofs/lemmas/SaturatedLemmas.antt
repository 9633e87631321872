-- Edges with saturated arcs, one after another and as a network.
use Rattle.std.proofs.Common.{ℕ, ◌≡◌, ◌+◌, ◌*◌, ◌/◌, ◌%◌, ◌<◌, ◌≤◌, ◌↔◌, ◌⊎◌, ⊎_elim, inl, inr, Bool, true, false}
use Rattle.std.proofs.Common.{List, [], ◌∷◌, ◌++◌, length, replicate, slice_get, slice_set, Option, Some, All, Contains}
use Rattle.std.proofs.Common.{sym, ap, ◌∙◌, subst, arith}
use Rattle.std.proofs.lemmas.Bool.{cases_lt}
use Rattle.std.proofs.lemmas.List.Elements.{All-contains, Contains-get_or, Contains-push_cases}
use Rattle.std.proofs.lemmas.Option.{slice_get_within}
use Rattle.net_graph.specs.declared.arcs.Arc.{Arc}
use Rattle.net_graph.specs.declared.packing.Cut.{Cut}
use Rattle.net_graph.specs.Adds.{Adds}
use Rattle.net_graph.specs.AddsLaws.{Adds-one, Adds-then, Adds-holds}
use Rattle.net_graph.specs.Decision.{Decided, IsDecisionFor, states_of}
use Rattle.net_graph.specs.Graph.{Graph, root_of}
use Rattle.net_graph.specs.Network.{Links, IsNetwork}
use Rattle.net_graph.specs.Packing.{load, room_of}
use Rattle.net_graph.specs.Saturation.{SaturatedStep, IsMaximal}
use Rattle.net_graph.specs.SearchLaws.{Leads-weaker}
use Rattle.dual_ascent.specs.declared.costs.EdgeCosts.{EdgeCosts}
use Rattle.dual_ascent.specs.Costs.{left_after, left_of, costs_of, is_used_up}
use Rattle.dual_ascent.specs.CostLaws.{slice_get-costs_of, saturated_edge}
use Rattle.branch.specs.SaturatedArcs.{HasSaturatedArc, IsUsedUpEdge}

module _ (H : ℕ → Type 0) where
  -- one more number, which was put in
  pub put_more : (old set : List Bool) (n : ℕ) → n < length set → Adds (λ k. (k < n) × H k) old set → H n →
      Adds (λ k. (k < n + 1) × H k) old (slice_set set n true)
  put_more old set n within adds here = grind (arith, Adds-then, Adds-one set n within, cases_lt)

  -- .. or wasn't
  pub put_none : (old set : List Bool) (n : ℕ) → Adds (λ k. (k < n) × H k) old set → (H n → ⊥) →
      Adds (λ k. (k < n + 1) × H k) old set
  put_none old set n adds none = grind arith

  -- all of them
  pub put_all : (size n : ℕ) (set : List Bool) → size ≤ n → ((k : ℕ) → H k → k < size) →
      Adds (λ k. (k < n) × H k) (replicate size false) set → (k : ℕ) → (slice_get set k ≡ Some true) ↔ H k
  put_all size n set all below adds k = (
    λ inside. (Adds-holds (λ j. (j < n) × H j) size set adds k inside).1,
    λ has. let low : k < size = below k has in adds.put k (omega arith, has),
  )

  -- what holds of a set's numbers and of one more
  pub put_one : (set : List Bool) (n : ℕ) → n < length set → ((k : ℕ) → slice_get set k ≡ Some true → H k) → H n →
      (k : ℕ) → slice_get (slice_set set n true) k ≡ Some true → H k
  put_one set n within each here k inside =
      ⊎_elim (λ before. each k before) (λ is. subst H (sym is) here) ((Adds-one set n within).only k inside)

-- what holds of two lists holds of a list of their items
pub All-from_two : (P : Arc → Type 0) (old more new : List Arc) →
    ((arc : Arc) → Contains new arc → Contains old arc ⊎ Contains more arc) → All P old → All P more → All P new
All-from_two P old more new among first second k d within =
    ⊎_elim (λ at. All-contains P old _ first at) (λ at. All-contains P more _ second at)
    (among _ (Contains-get_or new k d within))

-- one more item of the second list
pub among_more : (old more now : List Arc) (next : Arc) →
    ((arc : Arc) → Contains now arc → Contains old arc ⊎ Contains more arc) → Contains more next →
    (arc : Arc) → Contains (now ++ next ∷ []) arc → Contains old arc ⊎ Contains more arc
among_more old more now next among listed arc at =
    ⊎_elim (λ before. among arc before) (λ is. inr (subst (Contains more) is listed)) (Contains-push_cases now next arc at)

-- all edges with a saturated arc are a network where the packing is maximal
pub IsNetwork-saturated : (g : Graph) (d : Decided) (packing : List Cut) (set : List Bool) → IsMaximal g d packing →
    ((n : ℕ) → (slice_get set n ≡ Some true) ↔ HasSaturatedArc g d packing n) → IsNetwork g set
IsNetwork-saturated g d packing set maximal each k v within =
    Leads-weaker (SaturatedStep g d packing) (Links g set) link (root_of g) _
    (maximal _ (inl (Contains-get_or g.terminals k v within)))
  where
    link : (u w : ℕ) → SaturatedStep g d packing u w → Links g set u w
    link u w (n, e, state, at, state_at, ends, full) = (
      n,
      e,
      (each n).1 (
        e,
        state,
        at,
        state_at,
        ⊎_elim
            (λ (along : (e.a ≡ u) × (e.b ≡ w)). inl (full ∙ ap (λ x. Some (load packing x w)) (sym along.0)
            ∙ ap (λ x. Some (load packing e.a x)) (sym along.1)))
            (λ (against : (e.a ≡ w) × (e.b ≡ u)). inr (full ∙ ap (λ x. Some (load packing x w)) (sym against.1)
            ∙ ap (λ x. Some (load packing e.b x)) (sym against.0)))
            ends,
      ),
      at,
      ends,
    )

-- nothing is left of an arc whose load is its room
used_up-full : (room : Option ℕ) (amount : ℕ) → room ≡ Some amount → is_used_up (left_after room amount) ≡ true
used_up-full room amount is = grind arith

-- An edge has a saturated arc exactly where nothing is left of the room of one.
pub HasSaturatedArc-used_up : (g : Graph) (d : Decided) (packing : List Cut) → IsDecisionFor g d → (n : ℕ) →
    IsUsedUpEdge (costs_of g.edges (states_of g d) packing) n ↔ HasSaturatedArc g d packing n
HasSaturatedArc-used_up g d packing size n =
    let costs : List EdgeCosts = costs_of g.edges (states_of g d) packing in (
      λ (below, one). ⊎_elim
          (λ first. let half : 2 * n / 2 ≡ n = omega arith in
          subst (HasSaturatedArc g d packing) half (saturated_edge g d packing size (2 * n) first))
          (λ second. let half : (2 * n + 1) / 2 ≡ n = omega arith in
          subst (HasSaturatedArc g d packing) half (saturated_edge g d packing size (2 * n + 1) second))
          one,
      λ (e, state, at, decided, full).
          let here = slice_get-costs_of g.edges (states_of g d) packing n e state at decided in (
            slice_get_within costs n (left_of e state packing) here,
            ⊎_elim
                (λ first. let half : 2 * n / 2 ≡ n = omega arith in let even : 2 * n % 2 ≡ 0 = omega arith in
                inl (rw (half, here, even) (used_up-full (room_of state e) (load packing e.a e.b) first)))
                (λ second. let half : (2 * n + 1) / 2 ≡ n = omega arith in let odd : (2 * n + 1) % 2 ≡ 1 = omega arith in
                inr (rw (half, here, odd) (used_up-full (room_of state e) (load packing e.b e.a) second)))
                full,
          ),
    )

-- The invariants of a search.
use Rattle.std.proofs.Common.{◌≡◌, ℕ, ◌+◌, ◌<◌, ◌≤◌, Bool, true, false, List, [], ◌∷◌, ◌++◌, length, get_or, slice_get, Some, All, Contains, ◌⊎◌, ◌↔◌, ⊎_elim, sym, ap, ◌∙◌, subst, arith, length-append, append_assoc}
use Rattle.std.proofs.lemmas.Bool.{cases_lt}
use Rattle.std.proofs.lemmas.List.{get_or_append_left}
use Rattle.std.proofs.lemmas.List.Elements.{All-append, All-nil, All-push, All-contains, Contains-append_left, Contains-get_or, Contains-push, Contains-push_cases}
use Rattle.std.proofs.lemmas.Option.{same_Some, slice_get_within, slice_get-get_or, get_or_from_slice_get}
use Rattle.net_graph.specs.declared.arcs.Arc.{Arc}
use Rattle.net_graph.specs.declared.edge.Edge.{Edge}
use Rattle.net_graph.specs.Arcs.{IsArcOf, AreArcsFrom}
use Rattle.net_graph.specs.Growth.{LeadsFromOne, IsGoneOver}
use Rattle.net_graph.specs.Search.{OpenStep, Leads, Extends}
use Rattle.net_graph.specs.SearchLaws.{Leads-start, Leads-more, Leads-keeps}

-- one more number
pub Extends-more : (P : ℕ → Type 0) (old now : List ℕ) (v : ℕ) → Extends P old now → P v → Extends P old (now ++ v ∷ [])
Extends-more P old now v more here =
    grind (arith, append_assoc old more.rest (v ∷ []), All-push P more.rest v more.each here)

-- what is in the list stays in it
pub Extends-keeps : (P : ℕ → Type 0) (old now : List ℕ) (v : ℕ) → Extends P old now → Contains old v → Contains now v
Extends-keeps P old now v more has = rw more.is (Contains-append_left old more.rest v has)

-- the heads of the open ones among the first n arcs were added, and no others
pub record AddsHeads (P : ℕ → Type 0) (opens : ℕ → Bool) (arcs : List Arc) (n : ℕ) (old now : List ℕ) : Type 0 where
  pub more : Extends P old now
  pub every : (k : ℕ) (arc : Arc) → k < n → slice_get arcs k ≡ Some arc → opens arc.number ≡ true → Contains now arc.to

-- a shut arc
pub AddsHeads-shut : (P : ℕ → Type 0) (opens : ℕ → Bool) (arcs : List Arc) (n : ℕ) (old now : List ℕ) (arc : Arc) → AddsHeads P opens arcs n old now → slice_get arcs n ≡ Some arc → opens arc.number ≡ false → AddsHeads P opens arcs (n + 1) old now
AddsHeads-shut P opens arcs n old now arc adds at shut = grind (arith, same_Some, cases_lt)

-- an open arc
pub AddsHeads-open : (P : ℕ → Type 0) (opens : ℕ → Bool) (arcs : List Arc) (n : ℕ) (old now next : List ℕ) (arc : Arc) → AddsHeads P opens arcs n old now → slice_get arcs n ≡ Some arc → P arc.to → (next ≡ now ++ arc.to ∷ []) ⊎ (Contains now arc.to × (next ≡ now)) → AddsHeads P opens arcs (n + 1) old next
AddsHeads-open P opens arcs n old now next arc adds at here added =
    let last : AddsHeads P opens arcs n old next × Contains next arc.to = ⊎_elim
    (λ new. rw new (record { more = Extends-more P old now arc.to adds.more here; every = λ k x lt at_k is_open. Contains-append_left now (arc.to ∷ []) x.to (adds.every k x lt at_k is_open) }, Contains-push now arc.to))
    (λ (has, same). rw same (adds, has)) added in
    record {
      more = last.0.more;
      every = λ k x lt at_k is_open. ⊎_elim (λ earlier. last.0.every k x earlier at_k is_open)
          (λ later. let same : n ≡ k = omega arith in
          let same_arc : arc ≡ x = same_Some arc x (sym at ∙ subst (λ i. slice_get arcs i ≡ Some x) (sym same) at_k) in
          subst (λ (y : Arc). Contains next y.to) same_arc last.1) (cases_lt k n);
    }

-- when all arcs from the vertex were gone over, each vertex one step away was found
pub AddsHeads-all : (P : ℕ → Type 0) (edges : List Edge) (opens : ℕ → Bool) (v : ℕ) (arcs : List Arc) (n : ℕ) (old now : List ℕ) → AreArcsFrom (IsArcOf edges) v arcs → length arcs ≤ n → AddsHeads P opens arcs n old now → (w : ℕ) → OpenStep edges opens v w → Contains now w
AddsHeads-all P edges opens v arcs n old now are all adds w (arc, is, is_open, leaves, comes) =
    grind (arith, are.every arc is leaves, slice_get-get_or)

-- What a search has come to when it has gone over the vertices before the place: P holds of the found ones.
pub record SearchSoFar (Step : ℕ → ℕ → Type 0) (P : ℕ → Type 0) (vertices place : ℕ) (order : List ℕ) : Type 0 where
  pub led : All P order
  pub below : All (λ v. v < vertices) order
  pub within : place ≤ length order
  pub closed : (k v w : ℕ) → k < place → slice_get order k ≡ Some v → Step v w → Contains order w

-- each of the vertices is led to from itself
pub LeadsFromOne-start : (Step : ℕ → ℕ → Type 0) (starts : List ℕ) (v : ℕ) → Contains starts v → LeadsFromOne Step starts v
LeadsFromOne-start Step starts v listed = (v, listed, Leads-start Step v)

-- one step more
pub LeadsFromOne-more : (Step : ℕ → ℕ → Type 0) (starts : List ℕ) (u w : ℕ) → LeadsFromOne Step starts u → Step u w → LeadsFromOne Step starts w
LeadsFromOne-more Step starts u w (start, listed, led) step = (start, listed, Leads-more Step start u w led step)

-- from one vertex
pub LeadsFromOne-iff : (Step : ℕ → ℕ → Type 0) (start v : ℕ) → LeadsFromOne Step (start ∷ []) v ↔ Leads Step start v
LeadsFromOne-iff Step start v = grind (arith, Contains-push_cases, Contains-push)

-- the order with its first vertex
pub found_first : (order next : List ℕ) (v : ℕ) → order ≡ [] → (next ≡ order ++ v ∷ []) ⊎ (Contains order v × (next ≡ order)) → next ≡ v ∷ []
found_first order next v none added = grind arith

-- no vertex was gone over
pub IsGoneOver-start : (Step : ℕ → ℕ → Type 0) (start vertices : ℕ) → start < vertices → IsGoneOver vertices Step 0 (start ∷ [])
IsGoneOver-start Step start vertices below = grind (arith, All-push, All-nil)

-- as the search goes on
pub SearchSoFar-from_gone_over : (Step : ℕ → ℕ → Type 0) (vertices place : ℕ) (order : List ℕ) → IsGoneOver vertices Step place order → SearchSoFar Step (LeadsFromOne Step order) vertices place order
SearchSoFar-from_gone_over Step vertices place order over = grind (arith, LeadsFromOne-start, Contains-get_or)

-- one more vertex was gone over
pub SearchSoFar-more : (Step : ℕ → ℕ → Type 0) (P : ℕ → Type 0) (vertices place v : ℕ) (order next : List ℕ) → ((u w : ℕ) → P u → Step u w → P w) →
    SearchSoFar Step P vertices place order → slice_get order place ≡ Some v → Extends (λ w. (w < vertices) × Step v w) order next → ((w : ℕ) → Step v w → Contains next w) →
    SearchSoFar Step P vertices (place + 1) next
SearchSoFar-more Step P vertices place v order next kept so_far at more every =
    let within : place < length order = slice_get_within order place v at in
    let is : next ≡ order ++ more.rest = more.is in
    let Both : ℕ → Type 0 = λ w. (w < vertices) × Step v w in
    let here : P v = subst P (get_or_from_slice_get order place v v at) (so_far.led place v within) in
    record {
      led = rw is (All-append P order more.rest so_far.led (λ k d lt. kept v (get_or more.rest k d) here (more.each k d lt).1));
      below = rw is (All-append (λ w. w < vertices) order more.rest so_far.below (λ k d lt. (more.each k d lt).0));
      within = let total : length (order ++ more.rest) ≡ length order + length more.rest = length-append order more.rest in rw is (omega arith);
      closed = λ k u w lt at_k step. ⊎_elim
          (λ earlier. let in_old : k < length order = omega arith in
          let old_at : slice_get order k ≡ Some u = slice_get-get_or order k u in_old ∙ ap (λ x. Some x) (sym (get_or_append_left order more.rest u k in_old) ∙ get_or_from_slice_get (order ++ more.rest) k u u (rw is at at_k)) in
          Extends-keeps Both order next w more (so_far.closed k u w earlier old_at step))
          (λ later. let same : place ≡ k = omega arith in
          let old_at : slice_get (order ++ more.rest) place ≡ Some v = slice_get-get_or (order ++ more.rest) place v (omega (arith, length-append order more.rest)) ∙ ap (λ x. Some x) (get_or_append_left order more.rest v place within ∙ get_or_from_slice_get order place v v at) in
          let same_vertex : v ≡ u = same_Some v u (sym old_at ∙ subst (λ i. slice_get (order ++ more.rest) i ≡ Some u) (sym same) (rw is at at_k)) in
          every w (subst (λ x. Step x w) (sym same_vertex) step)) (cases_lt k place);
    }

-- when every found vertex was gone over, each step from a found one leads to a found one
pub SearchSoFar-closed : (Step : ℕ → ℕ → Type 0) (P : ℕ → Type 0) (vertices place : ℕ) (order : List ℕ) → SearchSoFar Step P vertices place order → length order ≤ place →
    (u w : ℕ) → Contains order u → Step u w → Contains order w
SearchSoFar-closed Step P vertices place order so_far all u w (k, lt, at) step =
    so_far.closed k u w (omega arith) (slice_get-get_or order k u lt ∙ ap (λ x. Some x) at) step

-- .. and so the found ones are those that the old ones lead to
pub SearchSoFar-all : (Step : ℕ → ℕ → Type 0) (old : List ℕ) (vertices place : ℕ) (order : List ℕ) → SearchSoFar Step (LeadsFromOne Step old) vertices place order →
    ((v : ℕ) → Contains old v → Contains order v) → length order ≤ place → (v : ℕ) → Contains order v ↔ LeadsFromOne Step old v
SearchSoFar-all Step old vertices place order so_far kept all v = (
  λ has. All-contains (LeadsFromOne Step old) order v so_far.led has,
  λ (start, listed, led). Leads-keeps Step (Contains order) start v (kept start listed) (SearchSoFar-closed Step (LeadsFromOne Step old) vertices place order so_far all) led,
)

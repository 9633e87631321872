-- The active vertices from step to step.
use Rattle.std.proofs.Common.{ℕ, ◌≡◌, ◌+◌, ◌-◌, ◌≤◌, ◌<◌, eqb, eqb-true, eq-eqb, Bool, true, false, List, [], ◌∷◌, ◌++◌, map, length, get_or, take, filter, All, Contains, Some, ◌⊎◌, inl, inr, ⊎_elim, refl, sym, ap, subst, ◌∙◌, arith}
use Rattle.std.specs.List.{remove}
use Rattle.std.specs.List.Sorted.{IsStrictlyIncreasing}
use Rattle.std.proofs.lemmas.Bool.{cases_Bool, cases_lt, both_ways}
use Rattle.std.proofs.lemmas.List.{length-map, get_or-map, get_or-take, get_or_default, length-take, map-append}
use Rattle.std.proofs.lemmas.List.Edits.{length-remove, get_or-remove_below, get_or-remove_above}
use Rattle.std.proofs.lemmas.List.Elements.{All-nil, All-cons, All-weaker, All-filter, All-push, All-contains, filter_passes, Contains-get_or, Contains-append_left, Contains-append_right, Contains-push}
use Rattle.std.proofs.lemmas.List.Kept.{AllPairs-from_increasing}
use Rattle.std.proofs.lemmas.List.Quantifiers.{all_pairs_remove, all_pairs_push}
use Rattle.net_graph.specs.declared.arcs.Arc.{Arc}
use Rattle.net_graph.specs.declared.packing.Cut.{Cut}
use Rattle.net_graph.specs.Arcs.{IsArcOf}
use Rattle.net_graph.specs.Graph.{Graph, IsGraph, root_of}
use Rattle.net_graph.specs.Growth.{HasArc}
use Rattle.net_graph.specs.Search.{OpenStep}
use Rattle.net_graph.specs.SearchLaws.{Leads-start, Leads-more, Leads-trans, Leads-weaker}
use Rattle.net_graph.specs.Packing.{enters}
use Rattle.dual_ascent.specs.declared.active.ActiveVertex.{ActiveVertex}
use Rattle.dual_ascent.specs.declared.costs.EdgeCosts.{EdgeCosts}
use Rattle.dual_ascent.specs.declared.entering.EnteringArc.{EnteringArc}
use Rattle.dual_ascent.specs.Active.{IsKept, vertices_of, AreActive}
use Rattle.dual_ascent.specs.Costs.{left_after, weight_on, lowered_by, is_used_up, cost_of, is_saturated, edges_of, Entering, IsLeastOf}
use Rattle.dual_ascent.specs.Entering.{EntersLeft, AreEntering}
use Rattle.dual_ascent.specs.Growing.{MayGrow, IsGrown, AreGrown, LeavesOut}
use Rattle.dual_ascent.specs.Steps.{SaturatedLeads}
use Rattle.dual_ascent.proofs.lemmas.ArcLemmas.{IsArcOf-below}
use Rattle.dual_ascent.proofs.lemmas.EnteringLemmas.{left_after-zero, cost_of-lowered, Entering-from_arc}
use Rattle.dual_ascent.proofs.lemmas.LoadLemmas.{left_after-same}
use Rattle.dual_ascent.specs.CostLaws.{left_after-none, is_used_up-some}

-- an item that passes is in the filtered list
filter_holds : (p : EnteringArc → Bool) (xs : List EnteringArc) → All (λ y. p y ≡ true → Contains (filter p xs) y) xs
filter_holds p [] = All-nil (λ y. p y ≡ true → Contains (filter p []) y)
filter_holds p (x ∷ xs) =
    ⊎_elim
    (λ (passes : p x ≡ true).
    let is : filter p (x ∷ xs) ≡ x ∷ filter p xs = rw passes refl in
    subst (λ ys. All (λ y. p y ≡ true → Contains ys y) (x ∷ xs)) (sym is)
    (All-cons (λ y. p y ≡ true → Contains (x ∷ filter p xs) y) x xs (λ yes. (0, omega arith, refl))
    (All-weaker (λ y. p y ≡ true → Contains (filter p xs) y) (λ y. p y ≡ true → Contains (x ∷ filter p xs) y)
    (λ y here yes. Contains-append_right (x ∷ []) (filter p xs) y (here yes)) xs (filter_holds p xs))))
    (λ (fails : p x ≡ false).
    let is : filter p (x ∷ xs) ≡ filter p xs = rw fails refl in
    subst (λ ys. All (λ y. p y ≡ true → Contains ys y) (x ∷ xs)) (sym is)
    (All-cons (λ y. p y ≡ true → Contains (filter p xs) y) x xs (λ yes. absurd (both_ways (p x) fails yes)) (filter_holds p xs)))
    (cases_Bool (p x))

-- what f gives of an item is in the mapped list
Contains-map : {X Y : Type 0} (f : X → Y) (xs : List X) (x : X) → Contains xs x → Contains (map f xs) (f x)
Contains-map f xs x (k, lt, is) = (k, omega (arith, length-map xs f), get_or-map f xs k x (f x) lt ∙ ap f is)

-- .. and back
Contains-from_map : {X Y : Type 0} (f : X → Y) (xs : List X) (y : Y) → Contains (map f xs) y → (k : ℕ) × (d : X) × (k < length xs) × (f (get_or xs k d) ≡ y)
Contains-from_map f [] y (k, lt, is) = absurd (omega arith)
Contains-from_map f (x ∷ xs) y (k, lt, is) =
    let low : k < length (x ∷ xs) = omega (arith, length-map (x ∷ xs) f) in
    (k, x, low, sym (get_or-map f (x ∷ xs) k x y low) ∙ is)

-- saturated arcs stay saturated where a cut is packed with no more than what is left of the arcs that enter it
pub OpenStep-kept : (g : Graph) (costs : List EdgeCosts) (cut : Cut) → edges_of costs ≡ g.edges → 0 < cut.weight → IsLeastOf (Entering costs cut.members) (Some cut.weight) → (u v : ℕ) →
    OpenStep g.edges (is_saturated costs) u v → OpenStep g.edges (is_saturated (map (lowered_by cut) costs)) u v
OpenStep-kept g costs cut of some least u v (arc, is_arc, full, leaves, comes) =
    let own : IsArcOf (edges_of costs) arc = subst (λ es. IsArcOf es arc) (sym of) is_arc in
    let none : cost_of costs arc.number ≡ Some 0 = is_used_up-some (cost_of costs arc.number) full in
    let apart : enters cut.members arc.from arc.to ≡ false = ⊎_elim
    (λ (entered : enters cut.members arc.from arc.to ≡ true).
    let low : cut.weight ≤ 0 = least.1 0 (Entering-from_arc costs cut.members arc 0 own entered none) in absurd (omega arith))
    (λ (out : enters cut.members arc.from arc.to ≡ false). out)
    (cases_Bool (enters cut.members arc.from arc.to)) in
    let free : weight_on cut arc.from arc.to ≡ 0 = rw apart refl in
    let after : cost_of (map (lowered_by cut) costs) arc.number ≡ Some 0 = cost_of-lowered costs cut arc own ∙ ap (left_after (cost_of costs arc.number)) free ∙ left_after-zero (cost_of costs arc.number) ∙ none in
    (arc, is_arc, ap is_used_up after, leaves, comes)

-- .. and so where they lead
pub SaturatedLeads-kept : (g : Graph) (costs : List EdgeCosts) (cut : Cut) → edges_of costs ≡ g.edges → 0 < cut.weight → IsLeastOf (Entering costs cut.members) (Some cut.weight) → (u v : ℕ) →
    SaturatedLeads g costs u v → SaturatedLeads g (map (lowered_by cut) costs) u v
SaturatedLeads-kept g costs cut of some least u v led = search (Leads-weaker, OpenStep-kept)

-- the arcs of which the cut leaves nothing
abbrev pub newly : ℕ → List EnteringArc → List Arc
newly weight list = map (λ (e : EnteringArc). e.arc) (filter (λ (e : EnteringArc). eqb e.left weight) list)

-- an arc that is saturated then was saturated before or is one of these
OpenStep-split : (g : Graph) (costs : List EdgeCosts) (cut : Cut) (list : List EnteringArc) → edges_of costs ≡ g.edges → AreEntering costs cut.members list → (u v : ℕ) →
    OpenStep g.edges (is_saturated (map (lowered_by cut) costs)) u v → OpenStep g.edges (is_saturated costs) u v ⊎ HasArc (newly cut.weight list) u v
OpenStep-split g costs cut list of are u v (arc, is_arc, full, leaves, comes) =
    let own : IsArcOf (edges_of costs) arc = subst (λ es. IsArcOf es arc) (sym of) is_arc in
    let none : left_after (cost_of costs arc.number) (weight_on cut arc.from arc.to) ≡ Some 0 = sym (cost_of-lowered costs cut arc own) ∙ is_used_up-some (cost_of (map (lowered_by cut) costs) arc.number) full in
    let test : EnteringArc → Bool = λ e. eqb e.left cut.weight in
    ⊎_elim
    (λ (entered : enters cut.members arc.from arc.to ≡ true).
    let loaded : weight_on cut arc.from arc.to ≡ cut.weight = rw entered refl in
    let left : cost_of costs arc.number ≡ Some cut.weight = left_after-none (cost_of costs arc.number) cut.weight (ap (left_after (cost_of costs arc.number)) (sym loaded) ∙ none) in
    let item : EnteringArc = record { arc = arc; left = cut.weight } in
    let listed : Contains list item = are.every arc cut.weight own entered left in
    let passed : Contains (filter test list) item = All-contains (λ y. test y ≡ true → Contains (filter test list) y) list item (filter_holds test list) listed (eq-eqb cut.weight cut.weight refl) in
    inr (arc, Contains-map (λ (e : EnteringArc). e.arc) (filter test list) item passed, leaves, comes))
    (λ (apart : enters cut.members arc.from arc.to ≡ false).
    let free : weight_on cut arc.from arc.to ≡ 0 = rw apart refl in
    let before : cost_of costs arc.number ≡ Some 0 = sym (left_after-zero (cost_of costs arc.number)) ∙ ap (left_after (cost_of costs arc.number)) (sym free) ∙ none in
    inl (arc, is_arc, ap is_used_up before, leaves, comes))
    (cases_Bool (enters cut.members arc.from arc.to))

-- what is known of each of these arcs
newly_each : (costs : List EdgeCosts) (cut : Cut) (list : List EnteringArc) (P : Arc → Type 0) → AreEntering costs cut.members list →
    ((e : EnteringArc) → EntersLeft costs cut.members e → e.left ≡ cut.weight → P e.arc) → All P (newly cut.weight list)
newly_each costs cut list P are each k d lt =
    let test : EnteringArc → Bool = λ e. eqb e.left cut.weight in
    let passed : List EnteringArc = filter test list in
    let low : k < length passed = omega (arith, length-map passed (λ (e : EnteringArc). e.arc)) in
    let none : EnteringArc = record { arc = d; left = 0 } in
    let e : EnteringArc = get_or passed k none in
    let own : EntersLeft costs cut.members e = All-filter test (EntersLeft costs cut.members) list are.each k none low in
    let left : e.left ≡ cut.weight = eqb-true e.left cut.weight (filter_passes test list k none low) in
    subst P (sym (get_or-map (λ (x : EnteringArc). x.arc) passed k none d low)) (each e own left)

-- what was kept of a vertex may grow along these arcs
pub MayGrow-packed : (g : Graph) (costs : List EdgeCosts) (cut : Cut) (list : List EnteringArc) (a : ActiveVertex) → IsGraph g → edges_of costs ≡ g.edges → AreEntering costs cut.members list → IsKept g costs a →
    MayGrow g (map (lowered_by cut) costs) (newly cut.weight list) a
MayGrow-packed g costs cut list a graph of are kept =
    let after : List EdgeCosts = map (lowered_by cut) costs in
    record {
      size = kept.size;
      closed = record {
        below = newly_each costs cut list (λ arc. (arc.from < g.vertices) × (arc.to < g.vertices)) are
            (λ e own left. IsArcOf-below g e.arc graph (subst (λ es. IsArcOf es e.arc) of own.arc));
        steps = newly_each costs cut list (λ arc. OpenStep g.edges (is_saturated after) arc.from arc.to) are
            (λ e own left.
            let loaded : weight_on cut e.arc.from e.arc.to ≡ cut.weight = rw own.enters refl in
            let none : cost_of after e.arc.number ≡ Some 0 = cost_of-lowered costs cut e.arc own.arc ∙ ap (left_after (cost_of costs e.arc.number)) loaded ∙ left_after-same (cost_of costs e.arc.number) cut.weight (own.left ∙ ap Some left) in
            (e.arc, subst (λ es. IsArcOf es e.arc) of own.arc, ap is_used_up none, refl, refl));
        closed = λ u v listed step. ⊎_elim
            (λ (before : OpenStep g.edges (is_saturated costs) u v).
            let Step : ℕ → ℕ → Type 0 = OpenStep g.edges (is_saturated costs) in
            inl ((kept.leading u).1 (Leads-trans Step u v a.vertex (Leads-more Step u u v (Leads-start Step u) before) ((kept.leading v).0 listed))))
            (λ (new : HasArc (newly cut.weight list) u v). inr new)
            (OpenStep-split g costs cut list of are u v step);
      };
    }

-- once it grew it is kept for the costs after the cut
IsKept-grown : (g : Graph) (costs after : List EdgeCosts) (a b : ActiveVertex) → ((u v : ℕ) → SaturatedLeads g costs u v → SaturatedLeads g after u v) → IsKept g costs a → IsGrown g after a b → IsKept g after b
IsKept-grown g costs after a b more kept grown = record {
  size = grown.size ∙ kept.size;
  leading = λ u. (
    λ listed.
        let (end, ends, led) = (grown.leading u).0 listed in
        subst (SaturatedLeads g after u) (sym grown.vertex) (Leads-trans (OpenStep g.edges (is_saturated after)) u end a.vertex led (more end a.vertex ((kept.leading end).0 ends))),
    λ led. (grown.leading u).1 (a.vertex, (kept.leading a.vertex).1 (Leads-start (OpenStep g.edges (is_saturated costs)) a.vertex), subst (SaturatedLeads g after u) grown.vertex led),
  );
}

-- the active vertices after a cut
pub AreActive-packed : (g : Graph) (vertices : List ℕ) (costs after : List EdgeCosts) (list grown rest : List ActiveVertex) (root : ℕ) → root ≡ root_of g → ((u v : ℕ) → SaturatedLeads g costs u v → SaturatedLeads g after u v) →
    AreActive g vertices costs list → AreGrown g after list grown → LeavesOut (λ a. Contains a.leading.order root) grown rest → All (λ a. Contains a.leading.order root → ⊥) rest → AreActive g vertices after rest
AreActive-packed g vertices costs after list grown rest root is more active are out apart =
    let kept : All (IsKept g after) grown = λ k d lt. IsKept-grown g costs after (get_or list k d) (get_or grown k d) more (active.kept k d (omega (arith, are.count))) (are.each k d (omega (arith, are.count))) in
    let among : All (λ a. Contains vertices a.vertex) grown = λ k d lt.
    let low : k < length list = omega (arith, are.count) in
    subst (Contains vertices) (sym (are.each k d low).vertex) (active.among k d low) in
    let kept_rest : All (IsKept g after) rest = λ k d lt. All-contains (IsKept g after) grown (get_or rest k d) kept (out.among (get_or rest k d) (Contains-get_or rest k d lt)) in
    record {
      kept = kept_rest;
      among = λ k d lt. All-contains (λ a. Contains vertices a.vertex) grown (get_or rest k d) among (out.among (get_or rest k d) (Contains-get_or rest k d lt));
      apart = λ k d lt led. apart k d lt (((kept_rest k d lt).leading root).1 (subst (λ r. SaturatedLeads g after r (get_or rest k d).vertex) (sym is) led));
      every = λ k d lt.
          let v : ℕ = get_or vertices k d in
          ⊎_elim
          (λ (listed : Contains (vertices_of list) v).
          let (j, e, low, here) = Contains-from_map (λ (a : ActiveVertex). a.vertex) list v listed in
          let low_grown : j < length grown = omega (arith, are.count) in
          let b : ActiveVertex = get_or grown j e in
          let vertex : b.vertex ≡ v = (are.each j e low).vertex ∙ here in
          ⊎_elim
          (λ (stays : Contains rest b). inl (subst (Contains (vertices_of rest)) vertex (Contains-map (λ (a : ActiveVertex). a.vertex) rest b stays)))
          (λ (reached : Contains b.leading.order root). inr (subst (SaturatedLeads g after (root_of g)) vertex (subst (λ r. SaturatedLeads g after r b.vertex) is (((kept j e low_grown).leading root).0 reached))))
          (out.every b (Contains-get_or grown j e low_grown)))
          (λ (led : SaturatedLeads g costs (root_of g) v). inr (more (root_of g) v led))
          (active.every k d lt);
      ascending = out.order (λ i j d less lt.
          let low_j : j < length list = omega (arith, are.count) in
          let low_i : i < length list = omega arith in
          let first : (get_or grown i d).vertex ≡ (get_or list i d).vertex = (are.each i d low_i).vertex in
          let second : (get_or grown j d).vertex ≡ (get_or list j d).vertex = (are.each j d low_j).vertex in
          let below : (get_or list i d).vertex < (get_or list j d).vertex = active.ascending i j d less low_j in
          omega arith);
    }

-- of one more, which the root leads to
pub AreActive-skip : (g : Graph) (vertices : List ℕ) (costs : List EdgeCosts) (list : List ActiveVertex) (v : ℕ) → AreActive g vertices costs list → SaturatedLeads g costs (root_of g) v → AreActive g (vertices ++ v ∷ []) costs list
AreActive-skip g vertices costs list v active reached = record {
  kept = active.kept;
  among = λ k d lt. Contains-append_left vertices (v ∷ []) (get_or list k d).vertex (active.among k d lt);
  apart = active.apart;
  every = All-push (λ w. Contains (vertices_of list) w ⊎ SaturatedLeads g costs (root_of g) w) vertices v active.every (inr reached);
  ascending = active.ascending;
}

-- of one more, which the root doesn't lead to
pub AreActive-push : (g : Graph) (vertices : List ℕ) (costs : List EdgeCosts) (list : List ActiveVertex) (a : ActiveVertex) → AreActive g vertices costs list → IsKept g costs a →
    (SaturatedLeads g costs (root_of g) a.vertex → ⊥) → All (λ w. w < a.vertex) vertices → AreActive g (vertices ++ a.vertex ∷ []) costs (list ++ a ∷ [])
AreActive-push g vertices costs list a active kept apart above =
    let same : vertices_of (list ++ a ∷ []) ≡ vertices_of list ++ a.vertex ∷ [] = map-append (λ (x : ActiveVertex). x.vertex) list (a ∷ []) in
    record {
      kept = All-push (IsKept g costs) list a active.kept kept;
      among = All-push (λ b. Contains (vertices ++ a.vertex ∷ []) b.vertex) list a
          (λ k d lt. Contains-append_left vertices (a.vertex ∷ []) (get_or list k d).vertex (active.among k d lt)) (Contains-push vertices a.vertex);
      apart = All-push (λ b. SaturatedLeads g costs (root_of g) b.vertex → ⊥) list a active.apart apart;
      every = subst (λ ns. All (λ w. Contains ns w ⊎ SaturatedLeads g costs (root_of g) w) (vertices ++ a.vertex ∷ [])) (sym same)
          (All-push (λ w. Contains (vertices_of list ++ a.vertex ∷ []) w ⊎ SaturatedLeads g costs (root_of g) w) vertices a.vertex
          (All-weaker (λ w. Contains (vertices_of list) w ⊎ SaturatedLeads g costs (root_of g) w) (λ w. Contains (vertices_of list ++ a.vertex ∷ []) w ⊎ SaturatedLeads g costs (root_of g) w)
          (λ w. ⊎_elim (λ listed. inl (Contains-append_left (vertices_of list) (a.vertex ∷ []) w listed)) (λ led. inr led)) vertices active.every)
          (inl (Contains-push (vertices_of list) a.vertex)));
      ascending = all_pairs_push (λ (b c : ActiveVertex). b.vertex < c.vertex) list a active.ascending
          (λ k d lt. All-contains (λ w. w < a.vertex) vertices (get_or list k d).vertex above (active.among k d lt));
    }

-- the first ones of a rising list are below the next
pub below_next : (vertices : List ℕ) (i : ℕ) → i < length vertices → IsStrictlyIncreasing vertices → All (λ w. w < get_or vertices i 0) (take i vertices)
below_next vertices i within rises k d lt =
    grind (arith, length-take i vertices, get_or-take, get_or_default vertices i d 0 within, AllPairs-from_increasing)

-- nothing left out
pub LeavesOut-none : (P : ActiveVertex → Type 0) (list : List ActiveVertex) → LeavesOut P list list
LeavesOut-none P list = record { among = λ a listed. listed; every = λ a listed. inl listed; order = λ rises. rises }

-- an item stays or is the one that was left out
stays_or_goes : (P : ActiveVertex → Type 0) (now : List ActiveVertex) (place : ℕ) (d a : ActiveVertex) → place < length now → P (get_or now place d) → Contains now a → Contains (remove now place) a ⊎ P a
stays_or_goes P now place d a within here (k, lt, is) =
    let size = length-remove now place within in
    ⊎_elim
    (λ (before : k < place). inl (k, omega arith, get_or-remove_below now place a k before within ∙ is))
    (λ (from : place ≤ k). ⊎_elim
    (λ (at : k < place + 1). let same : place ≡ k = omega arith in
    inr (subst P (get_or_default now place d a within ∙ ap (λ j. get_or now j a) same ∙ is) here))
    (λ (after : place + 1 ≤ k). let next : k - 1 + 1 ≡ k = omega arith in
    inl (k - 1, omega arith, get_or-remove_above now place a (k - 1) (omega arith) within ∙ ap (λ j. get_or now j a) next ∙ is))
    (cases_lt k (place + 1)))
    (cases_lt k place)

-- one more left out
pub LeavesOut-more : (P : ActiveVertex → Type 0) (list now : List ActiveVertex) (place : ℕ) (d : ActiveVertex) → place < length now → LeavesOut P list now → P (get_or now place d) → LeavesOut P list (remove now place)
LeavesOut-more P list now place d within so_far here = record {
  among = λ a (k, lt, is). so_far.among a (⊎_elim
      (λ (before : k < place). (k, omega arith, sym (get_or-remove_below now place a k before within) ∙ is))
      (λ (after : place ≤ k). (k + 1, omega (arith, length-remove now place within), sym (get_or-remove_above now place a k after within) ∙ is))
      (cases_lt k place));
  every = λ a listed. ⊎_elim
      (λ (stays : Contains now a). stays_or_goes P now place d a within here stays)
      (λ (gone : P a). inr gone)
      (so_far.every a listed);
  order = λ rises. all_pairs_remove (λ (a b : ActiveVertex). a.vertex < b.vertex) now place within (so_far.order rises);
}

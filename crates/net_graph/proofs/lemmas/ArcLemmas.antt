-- Arcs that are split by the vertices that they lead from, and the arcs of a list of edges.
use Rattle.std.proofs.Common.{◌≡◌, ℕ, ◌+◌, ◌-◌, ◌*◌, ◌<◌, ◌≤◌, true, false, ltb, List, [], ◌∷◌, ◌++◌, length, get_or, take, drop, slice_get, Some, All, Contains, inl, inr, ⊎_elim, sym, refl, ap, ◌∙◌, subst, arith, length-append}
use Rattle.std.specs.List.Sorted.{IsPartitionPoint, IsPermutation}
use Rattle.std.proofs.lemmas.Bool.{cases_lt, ltb-true, ltb-false}
use Rattle.std.proofs.lemmas.Option.{same_Some, slice_get_within, get_or_from_slice_get}
use Rattle.std.proofs.lemmas.List.{get_or-drop, get_or-take, length-drop, length-take-le}
use Rattle.std.proofs.lemmas.List.Elements.{All-contains, Contains-get_or, Contains-append_left, Contains-push, All-push}
use Rattle.std.proofs.lemmas.List.Sorted.{All-permutation, Contains-permutation}
use Rattle.net_graph.specs.declared.edge.Edge.{Edge}
use Rattle.net_graph.specs.declared.arcs.Arc.{Arc}
use Rattle.net_graph.specs.Graph.{HasEndsBelow}
use Rattle.net_graph.specs.Arcs.{IsArcOf, forward_arc, backward_arc, IsSplitAt, IsSplitBy, AreArcsOf, AreArcsFrom}

-- where a binary search by the vertex ends, the arcs are split
pub IsSplitAt-from_point : (arcs : List Arc) (vertex place : ℕ) → place ≤ length arcs → IsPartitionPoint (λ y. ltb y.from vertex ≡ true) (λ y. ltb y.from vertex ≡ false) arcs place → IsSplitAt arcs vertex place
IsSplitAt-from_point arcs vertex place within point = grind (arith, ltb-true, ltb-false)

-- an arc, for places past the end of a list
no_arc : Arc
no_arc = record { number = 0; from = 0; to = 0 }

-- the next vertex's arcs don't start earlier
pub starts_rise : (arcs : List Arc) (v p q : ℕ) → IsSplitAt arcs v p → IsSplitAt arcs (v + 1) q → p ≤ q
starts_rise arcs v p q here next =
    ⊎_elim (λ lt. let low : (get_or arcs q no_arc).from < v = here.before q no_arc lt in
    let within : p ≤ length arcs = here.within in
    let inside : q < length arcs = omega arith in
    let high : v + 1 ≤ (get_or arcs q no_arc).from = next.after q no_arc (omega arith) inside in absurd (omega arith))
    (λ le. le) (cases_lt q p)

-- the arcs from where a vertex's start to where the next one's do are those that lead from the vertex
pub AreArcsFrom-between : (arcs : List Arc) (v p q : ℕ) → IsSplitAt arcs v p → IsSplitAt arcs (v + 1) q → AreArcsFrom (Contains arcs) v (take (q - p) (drop p arcs))
AreArcsFrom-between arcs v p q here next =
    let rise : p ≤ q = starts_rise arcs v p q here next in
    let within : q ≤ length arcs = next.within in
    let part_length : length (take (q - p) (drop p arcs)) ≡ q - p = length-take-le (q - p) (drop p arcs) (omega (arith, length-drop p arcs)) in
    record {
      each = λ k d lt.
          let short : k < q - p = omega arith in
          let inside : p + k < length arcs = omega arith in
          let same : get_or (take (q - p) (drop p arcs)) k d ≡ get_or arcs (p + k) d = get_or-take (q - p) (drop p arcs) k d short ∙ get_or-drop p arcs k d in
          let low : v ≤ (get_or arcs (p + k) d).from = here.after (p + k) d (omega arith) inside in
          let high : (get_or arcs (p + k) d).from < v + 1 = next.before (p + k) d (omega arith) in
          let P : Arc → Type 0 = λ arc. Contains arcs arc × (arc.from ≡ v) in
          subst P (sym same) (Contains-get_or arcs (p + k) d inside, omega arith);
      every = λ arc (k, lt, is) leads.
          let after : p ≤ k = ⊎_elim (λ early. let low : (get_or arcs k arc).from < v = here.before k arc early in
          let same : (get_or arcs k arc).from ≡ arc.from = ap (λ x. x.from) is in absurd (omega arith)) (λ le. le) (cases_lt k p) in
          let before : k < q = ⊎_elim (λ early. early) (λ late. let high : v + 1 ≤ (get_or arcs k arc).from = next.after k arc late lt in
          let same : (get_or arcs k arc).from ≡ arc.from = ap (λ x. x.from) is in absurd (omega arith)) (cases_lt k q) in
          let place : p + (k - p) ≡ k = omega arith in
          let short : k - p < q - p = omega arith in
          (k - p, omega arith, get_or-take (q - p) (drop p arcs) (k - p) arc short ∙ get_or-drop p arcs (k - p) arc ∙ ap (λ i. get_or arcs i arc) place ∙ is);
    }

-- both arcs of each edge below the place, and no others
pub record AreArcsBelow (edges : List Edge) (n : ℕ) (arcs : List Arc) : Type 0 where
  pub each : All (IsArcOf edges) arcs
  pub every : (k : ℕ) (e : Edge) → k < n → slice_get edges k ≡ Some e → Contains arcs (forward_arc k e) × Contains arcs (backward_arc k e)
  pub count : length arcs ≡ 2 * n

-- an element of a list is an element of the list with two more
two_more : {X : Type 0} (xs : List X) (y z x : X) → Contains xs x → Contains ((xs ++ y ∷ []) ++ z ∷ []) x
two_more xs y z x has = Contains-append_left (xs ++ y ∷ []) (z ∷ []) x (Contains-append_left xs (y ∷ []) x has)

-- one more edge
pub AreArcsBelow-more : (edges : List Edge) (n : ℕ) (e : Edge) (arcs : List Arc) → slice_get edges n ≡ Some e → AreArcsBelow edges n arcs → AreArcsBelow edges (n + 1) ((arcs ++ forward_arc n e ∷ []) ++ backward_arc n e ∷ [])
AreArcsBelow-more edges n e arcs at below = record {
  each = All-push (IsArcOf edges) (arcs ++ forward_arc n e ∷ []) (backward_arc n e) (All-push (IsArcOf edges) arcs (forward_arc n e) below.each (n, e, at, inl refl)) (n, e, at, inr refl);
  every = λ k x lt at_k. ⊎_elim
      (λ earlier. let both : Contains arcs (forward_arc k x) × Contains arcs (backward_arc k x) = below.every k x earlier at_k in
      (two_more arcs (forward_arc n e) (backward_arc n e) (forward_arc k x) both.0, two_more arcs (forward_arc n e) (backward_arc n e) (backward_arc k x) both.1))
      (λ later. let same : n ≡ k = omega arith in
      let same_edge : e ≡ x = same_Some e x (sym at ∙ subst (λ i. slice_get edges i ≡ Some x) (sym same) at_k) in
      let P : ℕ → Edge → Arc → Type 0 = λ i y _. Contains ((arcs ++ forward_arc n e ∷ []) ++ backward_arc n e ∷ []) (forward_arc i y) × Contains ((arcs ++ forward_arc n e ∷ []) ++ backward_arc n e ∷ []) (backward_arc i y) in
      subst (λ i. P i x no_arc) same (subst (λ y. P n y no_arc) same_edge
      (Contains-append_left (arcs ++ forward_arc n e ∷ []) (backward_arc n e ∷ []) (forward_arc n e) (Contains-push arcs (forward_arc n e)), Contains-push (arcs ++ forward_arc n e ∷ []) (backward_arc n e))))
      (cases_lt k n);
  count = let total : length arcs ≡ 2 * n = below.count in omega (arith, length-append {A = Arc});
}

-- in another order they are still the arcs of the edges
pub AreArcsOf-permutation : (edges : List Edge) (xs ys : List Arc) → IsPermutation xs ys → AreArcsOf edges xs → AreArcsOf edges ys
AreArcsOf-permutation edges xs ys moved are = record {
  each = All-permutation (IsArcOf edges) xs ys moved are.each;
  every = λ arc is. Contains-permutation xs ys arc moved (are.every arc is);
}

-- where a vertex's arcs start and where the next one's do, as the table keeps them
pub starts_around : (arcs : List Arc) (starts : List ℕ) (v p q : ℕ) → IsSplitBy arcs starts → v < length starts - 1 → p ≡ get_or starts v p → q ≡ get_or starts (v + 1) q → IsSplitAt arcs v p × IsSplitAt arcs (v + 1) q
starts_around arcs starts v p q split below at_v at_next =
    (subst (IsSplitAt arcs v) (sym at_v) (split.split v p (omega arith)), subst (IsSplitAt arcs (v + 1)) (sym at_next) (split.split (v + 1) q (omega arith)))

-- what is said of arcs with P is said of the same arcs by another name
pub AreArcsFrom-same : (P Q : Arc → Type 0) (v : ℕ) (arcs : List Arc) → ((arc : Arc) → P arc → Q arc) → ((arc : Arc) → Q arc → P arc) → AreArcsFrom P v arcs → AreArcsFrom Q v arcs
AreArcsFrom-same P Q v arcs to back are = grind arith

-- the arcs of a graph that lead from a vertex, from those of its table
pub AreArcsFrom-of_graph : (edges : List Edge) (all : List Arc) (v : ℕ) (arcs : List Arc) → AreArcsOf edges all → AreArcsFrom (Contains all) v arcs → AreArcsFrom (IsArcOf edges) v arcs
AreArcsFrom-of_graph edges all v arcs are from = AreArcsFrom-same (Contains all) (IsArcOf edges) v arcs (λ arc has. All-contains (IsArcOf edges) all arc are.each has) are.every from

-- the same of each arc of a list
pub AreArcsFrom-bounds : (vertices : ℕ) (edges : List Edge) (v : ℕ) (arcs : List Arc) → All (HasEndsBelow vertices) edges → AreArcsFrom (IsArcOf edges) v arcs → All (λ arc. (arc.to < vertices) × (arc.number < 2 * length edges)) arcs
AreArcsFrom-bounds vertices edges v arcs ends are = λ k d lt. (grind (arith, slice_get_within, get_or_from_slice_get))

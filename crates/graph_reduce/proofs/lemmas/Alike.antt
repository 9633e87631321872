-- The one edge that may be parallel to another, and what is left where the longer of both is dropped.
use Rattle.std.specs.Prelude.{ℕ, ◌≡◌, ◌≢◌, ◌⊎◌, ◌+◌, ◌<◌, ◌≤◌, length, Some}
use Rattle.std.proofs.Common.{refl, sym, ◌∙◌, inl, inr, ⊎_elim, subst, arith}
use Rattle.std.proofs.lemmas.Bool.{cases_eq, cases_lt}
use Rattle.std.proofs.lemmas.Option.{slice_get_within}
use Rattle.net_graph.specs.declared.edge.Edge.{Edge}
use Rattle.net_graph.specs.Network.{HasEnds}
use Rattle.graph_reduce.specs.State.{Bundle, State, HasEdge, EndsIn}
use Rattle.graph_reduce.specs.Survey.{IsNextEnd}
use Rattle.graph_reduce.specs.Rules.{AreParallel}
use Rattle.graph_reduce.specs.Clear.{IsClearTo, IsTidy, IsTidyBut, IsWithin, AreAlike}
use Rattle.graph_reduce.proofs.lemmas.Ends.{same_edge}

-- the same ends, seen from the other edge
ends_back : (x y : Edge) → HasEnds y x.a x.b → HasEnds x y.a y.b
ends_back x y (inl is) = inl (sym is.0, sym is.1)
ends_back x y (inr is) = inr (sym is.1, sym is.0)

-- .. and of two edges with the ends of a third
ends_same : (x y z : Edge) → HasEnds y x.a x.b → HasEnds z x.a x.b → HasEnds z y.a y.b
ends_same x y z (inl y_is) (inl z_is) = inl (z_is.0 ∙ sym y_is.0, z_is.1 ∙ sym y_is.1)
ends_same x y z (inl y_is) (inr z_is) = inr (z_is.0 ∙ sym y_is.1, z_is.1 ∙ sym y_is.0)
ends_same x y z (inr y_is) (inl z_is) = inr (z_is.0 ∙ sym y_is.1, z_is.1 ∙ sym y_is.0)
ends_same x y z (inr y_is) (inr z_is) = inl (z_is.0 ∙ sym y_is.0, z_is.1 ∙ sym y_is.1)

pub alike_within : (s : State) (place n : ℕ) → AreAlike s place n → n < length s.edges
alike_within s place n alike = slice_get_within s.edges n (Some alike.y) alike.other_at

-- an end of the one edge is an end of the other
pub alike_end : (s : State) (place n : ℕ) (alike : AreAlike s place n) (v : ℕ) → EndsIn s v place → EndsIn s v n
alike_end s place n alike v (x, at, ends) = grind arith

-- nothing below a place of the node's edges is alike, nor is this one: nothing below the next is
pub none_alike : (s : State) (place v from n : ℕ) → EndsIn s v place → ((k : ℕ) → k < from → ¬ AreAlike s place k) →
    IsNextEnd s v from n → ¬ AreAlike s place n → (k : ℕ) → k < n + 1 → ¬ AreAlike s place k
none_alike s place v from n end lower next not k below alike = elim (cases_lt k from) [
  | inl low ↦ lower k low alike
  | inr least ↦ elim (cases_eq k n) [
    | inl same ↦ not (subst (AreAlike s place) same alike)
    | inr apart ↦ next.none k least (omega (arith, below, apart)) (alike_end s place k alike v end)
  ]
]

pub none_alike_left : (s : State) (place v from : ℕ) → EndsIn s v place →
    ((k : ℕ) → k < from → ¬ AreAlike s place k) → ((k : ℕ) → from ≤ k → ¬ EndsIn s v k) → (k : ℕ) →
    ¬ AreAlike s place k
none_alike_left s place v from end lower none k alike = elim (cases_lt k from) [
  | inl low ↦ lower k low alike
  | inr least ↦ none k least (alike_end s place k alike v end)
]

-- two places in order
ordered : (n m : ℕ) → n ≢ m → (n < m) ⊎ (m < n)
ordered n m apart = grind arith

-- two edges that are alike are parallel, the earlier first
parallel_after : (s : State) (place n : ℕ) (alike : AreAlike s place n) → place < n →
    AreParallel s place n alike.x alike.y
parallel_after s place n alike order = search

parallel_before : (s : State) (place n : ℕ) (alike : AreAlike s place n) → n < place →
    AreParallel s n place alike.y alike.x
parallel_before s place n alike order = grind arith

-- .. and parallel edges are alike
alike_first : (s : State) (n m : ℕ) (x y : Bundle) → AreParallel s n m x y → AreAlike s n m
alike_first s n m x y are = grind arith

alike_second : (s : State) (n m : ℕ) (x y : Bundle) → AreParallel s n m x y → AreAlike s m n
alike_second s n m x y are = grind arith

-- what is parallel to an edge of a node is an edge of the node too
pub clear_past : (s : State) (end place from n v : ℕ) →
    ((x : Bundle) → HasEdge s place x → (x.edge.a ≡ v) ⊎ (x.edge.b ≡ v)) →
    ((k : ℕ) → from ≤ k → k < n → ¬ EndsIn s v k) → IsClearTo s end place from → IsClearTo s end place n
clear_past s end place from n v ends none clear = record {
  idle = clear.idle;
  loops = clear.loops;
  parallels = λ p q x y before are. ⊎_elim (λ (low : p < place). clear.parallels p q x y (inl low) are)
      (λ (same : (p ≡ place) × (q < n)). elim (cases_lt q from) [
        | inl lower ↦ clear.parallels p q x y (inr (same.0, lower)) are
        | inr least ↦ (let here = subst (λ k. AreParallel s k q x y) same.0 are in
            none q least same.1
            (alike_end s place q (alike_first s place q x y here) v (x, here.first_at, ends x here.first_at)))
      ]) before;
}

module _ (s : State) (place : ℕ) (tidy : IsTidyBut s place) where
  -- two others are not both alike
  one_alike : (n m : ℕ) → AreAlike s place n → AreAlike s place m → n ≡ m
  one_alike n m first second =
      grind (arith, cases_eq, tidy.parallels, ends_back, ordered, first.x, same_edge, ends_same)

  -- a parallel pair has the place in it
  pair_with : (n m : ℕ) (x y : Bundle) → AreParallel s n m x y → (n ≡ place) ⊎ (m ≡ place)
  pair_with n m x y are = grind arith

  loops_to : (end n : ℕ) (x : Bundle) → n < end → HasEdge s n x → x.edge.a ≢ x.edge.b
  loops_to end n x below at = tidy.loops n x at

  -- before the place
  pub clear_before : (other : ℕ) → AreAlike s place other → other < place → IsClearTo s (length s.edges) other place
  clear_before other first order = record {
    idle = tidy.idle;
    loops = loops_to (length s.edges);
    parallels = λ n m x y before are. ⊎_elim
        (λ (is : n ≡ place). omega arith)
        (λ (is : m ≡ place). absurd (⊎_elim
        (λ (b : n < other). (let same = one_alike n other (subst (λ k. AreAlike s k n) is (alike_second s n m x y are)) first in omega (arith, b, same)))
        (λ (b : (n ≡ other) × (m < place)). let low = b.1 in omega arith) before))
        (pair_with n m x y are);
  }

  -- after it
  pub clear_after : (other : ℕ) → AreAlike s place other → place ≤ other → IsClearTo s (length s.edges) place other
  clear_after other first order = record {
    idle = tidy.idle;
    loops = loops_to (length s.edges);
    parallels = λ n m x y before are. ⊎_elim
        (λ (is : n ≡ place). absurd (⊎_elim (λ (b : n < place). omega arith)
        (λ (b : (n ≡ place) × (m < other)).
        (let same = one_alike m other (subst (λ k. AreAlike s k m) is (alike_first s n m x y are)) first in omega (arith, b.1, same))) before))
        (λ (is : m ≡ place). let lower = are.order in absurd (⊎_elim
        (λ (b : n < place). (let same = one_alike n other (subst (λ k. AreAlike s k n) is (alike_second s n m x y are)) first in omega (arith, b, same, order)))
        (λ (b : (n ≡ place) × (m < other)). let same = b.0 in omega arith) before))
        (pair_with n m x y are);
  }

  -- nothing is alike
  pub tidy_none : ((n : ℕ) → ¬ AreAlike s place n) → IsTidy s
  tidy_none none = record {
    idle = tidy.idle;
    loops = tidy.loops;
    parallels = λ n m x y are. ⊎_elim
        (λ (is : n ≡ place). none m (subst (λ k. AreAlike s k m) is (alike_first s n m x y are)))
        (λ (is : m ≡ place). none n (subst (λ k. AreAlike s k n) is (alike_second s n m x y are)))
        (pair_with n m x y are);
  }

  module _ (new : State) (other : ℕ) (within : IsWithin new s) (alike : AreAlike s place other) where
    -- an edge that is alike afterwards was so before
    alike_before : (n : ℕ) → AreAlike new place n → AreAlike s place n
    alike_before n is = record {
      apart = is.apart;
      x = is.x;
      y = is.y;
      ends = is.ends;
      at = within.edges place is.x is.at;
      other_at = within.edges n is.y is.other_at;
    }

    parallel_old : (n m : ℕ) (x y : Bundle) → AreParallel new n m x y → AreParallel s n m x y
    parallel_old n m x y are = record {
      order = are.order;
      same_ends = are.same_ends;
      first_at = within.edges n x are.first_at;
      second_at = within.edges m y are.second_at;
    }

    tidy_left : (length new.terminals ≡ 1 → ¬ ((n : ℕ) × (x : Bundle) × HasEdge new n x)) →
        (AreAlike new place other → ⊥) → IsTidy new
    tidy_left idle gone = record {
      idle = idle;
      loops = λ n x at. tidy.loops n x (within.edges n x at);
      parallels = λ n m x y are. ⊎_elim
          (λ (is : n ≡ place). by_other m (subst (λ k. AreAlike new k m) is (alike_first new n m x y are)))
          (λ (is : m ≡ place). by_other n (subst (λ k. AreAlike new k n) is (alike_second new n m x y are)))
          (pair_with n m x y (parallel_old n m x y are));
    }
      where
        by_other : (n : ℕ) → AreAlike new place n → ⊥
        by_other n is = gone (subst (AreAlike new place) (one_alike n other (alike_before n is) alike) is)

    pub tidy_before : other < place → IsClearTo new (length new.edges) other (place + 1) → IsTidy new
    tidy_before order clear = tidy_left clear.idle (λ is. clear.parallels other place is.y is.x
        (inr (refl, omega arith)) (parallel_before new place other is order))

    pub tidy_after : place ≤ other → IsClearTo new (length new.edges) place (other + 1) → IsTidy new
    tidy_after order clear = tidy_left clear.idle (λ is. clear.parallels place other is.x is.y
        (inr (refl, omega arith)) (parallel_after new place other is (omega (arith, order, is.apart))))

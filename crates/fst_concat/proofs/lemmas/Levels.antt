-- Counts of labels, and sums over levels.
use Rattle.std.specs.Prelude.{slice_index_or, Contains, ◌==◌, ◌||◌}
use Rattle.std.proofs.Common.{ℕ, zero, suc, ◌≡◌, ◌+◌, ◌-◌, ◌<◌, ◌≤◌, ◌⊎◌, Bool, true, false, List, [], ◌∷◌, All, length, map, drop, take, get_or, drop-cons, length-drop, take_all, refl, ap, ◌∙◌, inl, inr, ⊎_elim, arith}
use Rattle.std.specs.List.{AllByRecursion}
use Rattle.std.proofs.lemmas.Bool.{eqb-true, eq-eqb, cases_order, or_parts}
use Rattle.full_tree.specs.Code.{ascending_places, with_place}
use Rattle.full_tree.specs.MembersLaws.{Climbs, Climbs-ascending_places, Contains-ascending_places, Contains-from_ascending_places, with_place-same, with_place-above, length-with_place}
use Rattle.concatenation.specs.Partitions.{Layer}
use Rattle.fst_concat.specs.declared.level.Level.{Level}
use Rattle.fst_concat.specs.Levels.{layer_of, layers_of, any_label}

-- ---- a place more in a climbing list

below_none : (p q : ℕ) (qs : List ℕ) → AllByRecursion (λ r. q < r) qs → p < q → Contains qs p → ⊥
below_none p q [] above lower (k, inside, is) = absurd (omega arith)
below_none p q (r ∷ rs) above lower (zero, inside, is) = omega (arith, above.0, is)
below_none p q (r ∷ rs) above lower (suc k, inside, is) = below_none p q rs above.1 lower (k, omega arith, is)

-- a place that is below the first of a climbing list isn't in it
not_below : (p q : ℕ) (qs : List ℕ) → Climbs (q ∷ qs) → p < q → Contains (q ∷ qs) p → ⊥
not_below p q qs climbs lower (zero, inside, is) = omega (arith, is)
not_below p q qs climbs lower (suc k, inside, is) = below_none p q qs climbs.0 lower (k, omega arith, is)

-- a place that is above the first one is among the rest
among_rest : (p q : ℕ) (qs : List ℕ) → q < p → Contains (q ∷ qs) p → Contains qs p
among_rest p q qs above (zero, inside, is) = absurd (omega (arith, is))
among_rest p q qs above (suc k, inside, is) = (k, omega arith, is)

length-with_place_there : (p : ℕ) (qs : List ℕ) → Climbs qs → Contains qs p → length (with_place p qs) ≡ length qs
length-with_place_there p [] climbs (k, inside, is) = absurd (omega arith)
length-with_place_there p (q ∷ qs) climbs there = elim (cases_order p q) [
  | inl same ↦ ap length (with_place-same p q qs same)
  | inr (inl below) ↦ absurd (not_below p q qs climbs below there)
  | inr (inr above) ↦ ap length (with_place-above p q qs above)
      ∙ ap suc (length-with_place_there p qs climbs.1 (among_rest p q qs above there))
]

-- ---- what a test says

or_cases : (a b : Bool) → (a || b) ≡ true → (a ≡ true) ⊎ (b ≡ true)
or_cases true b test = inl refl
or_cases false b test = inr test

any_label-there : (label : ℕ) (labels : List ℕ) → any_label label labels ≡ true → Contains labels label
any_label-there label [] test = (cc)
any_label-there label (other ∷ others) test = ⊎_elim
    (λ here. (0, omega arith, eqb-true other label here))
    (λ later. let (k, inside, is) = any_label-there label others later in (suc k, omega (arith, inside), is))
    (or_cases (other == label) (any_label label others) test)

any_label-new : (label : ℕ) (labels : List ℕ) → any_label label labels ≡ false → Contains labels label → ⊥
any_label-new label [] test (k, inside, is) = absurd (omega arith)
any_label-new label (other ∷ others) test (zero, inside, is) =
    grind (arith, eq-eqb other label is, or_parts (other == label) (any_label label others) test)
any_label-new label (other ∷ others) test (suc k, inside, is) =
    any_label-new label others (or_parts (other == label) (any_label label others) test).1 (k, omega arith, is)

-- a label more that is there already, or isn't
pub ascending_there : (label : ℕ) (labels : List ℕ) → any_label label labels ≡ true
    → length (ascending_places (label ∷ labels)) ≡ length (ascending_places labels)
ascending_there label labels test = length-with_place_there label (ascending_places labels) (Climbs-ascending_places labels)
    (Contains-ascending_places labels label (any_label-there label labels test))

pub ascending_new : (label : ℕ) (labels : List ℕ) → any_label label labels ≡ false
    → length (ascending_places (label ∷ labels)) ≡ length (ascending_places labels) + 1
ascending_new label labels test = length-with_place label (ascending_places labels)
    (λ there. any_label-new label labels test (Contains-from_ascending_places labels label there))

-- a list from the place before one on
drop_before : (xs : List ℕ) (i : ℕ) → 0 < i → i ≤ length xs → drop (i - 1) xs ≡ get_or xs (i - 1) 0 ∷ drop i xs
drop_before xs i some within = grind (arith, drop-cons)

-- the rest behind that place
rest_is : (xs : List ℕ) (i : ℕ) → 0 < i → i ≤ length xs → take (length xs - (i - 1 + 1)) (drop (i - 1 + 1) xs) ≡ drop i xs
rest_is xs i some within = grind (arith, length-drop i xs, take_all)

-- one label more, from the back
pub counts_new : (xs : List ℕ) (i count : ℕ) (f : ℕ → ℕ) → 0 < i → i ≤ length xs
    → any_label (f (get_or xs (i - 1) 0)) (map f (take (length xs - (i - 1 + 1)) (drop (i - 1 + 1) xs))) ≡ false
    → count ≡ length (ascending_places (map f (drop i xs))) → count + 1 ≡ length (ascending_places (map f (drop (i - 1) xs)))
counts_new xs i count f some within test counted =
    grind (arith, f (get_or xs (i - 1) 0), rest_is xs i some within, drop_before xs i some within, ascending_new)

pub counts_there : (xs : List ℕ) (i count : ℕ) (f : ℕ → ℕ) → 0 < i → i ≤ length xs
    → any_label (f (get_or xs (i - 1) 0)) (map f (take (length xs - (i - 1 + 1)) (drop (i - 1 + 1) xs))) ≡ true
    → count ≡ length (ascending_places (map f (drop i xs))) → count ≡ length (ascending_places (map f (drop (i - 1) xs)))
counts_there xs i count f some within test counted =
    grind (arith, f (get_or xs (i - 1) 0), rest_is xs i some within, drop_before xs i some within, ascending_there)

-- .. of labels themselves
pub labels_new : (xs : List ℕ) (i count : ℕ) → 0 < i → i ≤ length xs
    → any_label (get_or xs (i - 1) 0) (take (length xs - (i - 1 + 1)) (drop (i - 1 + 1) xs)) ≡ false
    → count ≡ length (ascending_places (drop i xs)) → count + 1 ≡ length (ascending_places (drop (i - 1) xs))
labels_new xs i count some within test counted =
    grind (arith, rest_is xs i some within, drop_before xs i some within, ascending_new)

pub labels_there : (xs : List ℕ) (i count : ℕ) → 0 < i → i ≤ length xs
    → any_label (get_or xs (i - 1) 0) (take (length xs - (i - 1 + 1)) (drop (i - 1 + 1) xs)) ≡ true
    → count ≡ length (ascending_places (drop i xs)) → count ≡ length (ascending_places (drop (i - 1) xs))
labels_there xs i count some within test counted =
    grind (arith, rest_is xs i some within, drop_before xs i some within, ascending_there)

-- ---- sums over levels

pub all_cons : {X : Type 0} (P : X → Type 0) (x : X) (xs : List X) → P x → All P xs → All P (x ∷ xs)
all_cons P x xs here rest zero d within = here
all_cons P x xs here rest (suc k) d within = rest k d (omega arith)

-- where each of the levels has it, so does each layer
pub All-layers : (P : Layer → Type 0) (n : ℕ) (levels : List Level)
    → ((k : ℕ) (d : Level) → k < length levels → P (layer_of n (slice_index_or levels k d))) → All P (layers_of n levels)
All-layers P n [] each = λ k d within. absurd (omega arith)
All-layers P n (level ∷ levels) each = all_cons P (layer_of n level) (layers_of n levels) (each 0 level (omega arith))
    (All-layers P n levels (λ k d within. each (suc k) d (omega arith)))

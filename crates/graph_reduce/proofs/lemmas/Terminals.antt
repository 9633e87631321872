-- Lists of terminals: without repeats, without one, and with one in another's place.
use Rattle.std.specs.Prelude.{ℕ, zero, suc, ◌≡◌, ◌==◌, ◌⊎◌, Bool, true, false, not, List, [], ◌∷◌, length, map, Contains, if◌then◌else◌}
use Rattle.std.specs.List.{list_any}
use Rattle.std.proofs.Common.{refl, sym, ap, ◌∙◌, inl, inr, ⊎_elim, subst, arith}
use Rattle.std.proofs.lemmas.Bool.{eqb-true, eqb-false, eq-eqb, or_cases, or_left, or_right, both_ways}
use Rattle.net_graph.specs.Distinct.{without, distinct_of}
use Rattle.graph_reduce.specs.Rules.{moved}

-- the number is in the list, by recursion
abbrev pub In : List ℕ → ℕ → Type 0
In [] v = ⊥
In (x ∷ xs) v = (x ≡ v) ⊎ In xs v

pub In-from_Contains : (xs : List ℕ) (v : ℕ) → Contains xs v → In xs v
In-from_Contains [] v (k, below, is) = absurd (omega arith)
In-from_Contains (x ∷ xs) v (zero, below, is) = inl is
In-from_Contains (x ∷ xs) v (suc k, below, is) = inr (In-from_Contains xs v (k, omega arith, is))

pub Contains-from_In : (xs : List ℕ) (v : ℕ) → In xs v → Contains xs v
Contains-from_In [] v h = absurd h
Contains-from_In (x ∷ xs) v (inl is) = (zero, omega arith, is)
Contains-from_In (x ∷ xs) v (inr later) = let (k, below, is) = Contains-from_In xs v later in (suc k, omega arith, is)

-- no number stands twice
abbrev pub AreDistinct : List ℕ → Type 0
AreDistinct [] = Unit {0}
AreDistinct (x ∷ xs) = (In xs x → ⊥) × AreDistinct xs

-- what is in the list without a number is in it, and isn't that number
pub In-without : (t : ℕ) (xs : List ℕ) (v : ℕ) → In (without t xs) v → In xs v × (v ≡ t → ⊥)
In-without t [] v h = absurd h
In-without t (x ∷ xs) v h = grind (arith, x == t, In-without t xs v, eqb-false)

-- .. and back
pub In-without_from : (t : ℕ) (xs : List ℕ) (v : ℕ) → In xs v → (v ≡ t → ⊥) → In (without t xs) v
In-without_from t [] v h apart = absurd h
In-without_from t (x ∷ xs) v h apart = by_test (x == t) refl (λ later. In-without_from t xs v later apart) h
  where
    by_test : (b : Bool) → (x == t) ≡ b → (In xs v → In (without t xs) v) → In (x ∷ xs) v →
        In (if not b then x ∷ without t xs else without t xs) v
    by_test true is rest (inl here) = absurd (apart (sym here ∙ eqb-true x t is))
    by_test true is rest (inr later) = rest later
    by_test false is rest (inl here) = inl here
    by_test false is rest (inr later) = inr (rest later)

pub AreDistinct-without : (t : ℕ) (xs : List ℕ) → AreDistinct xs → AreDistinct (without t xs)
AreDistinct-without t [] d = tt
AreDistinct-without t (x ∷ xs) (new, rest) = grind (arith, In-without, AreDistinct-without t xs rest)

-- the list without repeats has none, and holds the same numbers
pub AreDistinct-distinct_of : (xs : List ℕ) → AreDistinct (distinct_of xs)
AreDistinct-distinct_of [] = tt
AreDistinct-distinct_of (x ∷ xs) = grind (arith, In-without, AreDistinct-without, AreDistinct-distinct_of xs)

pub In-distinct_of : (xs : List ℕ) (v : ℕ) → In (distinct_of xs) v → In xs v
In-distinct_of [] v h = absurd h
In-distinct_of (x ∷ xs) v (inl here) = inl here
In-distinct_of (x ∷ xs) v (inr later) = inr (In-distinct_of xs v (In-without x (distinct_of xs) v later).0)

pub In-distinct_of_from : (xs : List ℕ) (v : ℕ) → In xs v → In (distinct_of xs) v
In-distinct_of_from [] v h = absurd h
In-distinct_of_from (x ∷ xs) v (inl here) = inl here
In-distinct_of_from (x ∷ xs) v (inr later) = grind (arith, In-without_from, In-distinct_of_from xs v later)

-- ---- one number in another's place

abbrev pub with_other : ℕ → ℕ → List ℕ → List ℕ
with_other from to xs = map (λ t. if t == from then to else t) xs

-- what is in a list where a number took another's place
pub In-with_other : (from to : ℕ) (xs : List ℕ) (v : ℕ) → In (with_other from to xs) v →
    ((v ≡ to) × In xs from) ⊎ (In xs v × (v ≡ from → ⊥))
In-with_other from to [] v h = absurd h
In-with_other from to (x ∷ xs) v h = grind (arith, x, In-with_other from to xs v, eqb-true, eqb-false)

-- .. what was there, and isn't the number whose place was taken, still is
pub In-with_other_from : (from to : ℕ) (xs : List ℕ) (v : ℕ) → In xs v → (v ≡ from → ⊥) → In (with_other from to xs) v
In-with_other_from from to [] v h apart = absurd h
In-with_other_from from to (x ∷ xs) v h apart =
    by_test (x == from) refl (λ later. In-with_other_from from to xs v later apart) h
  where
    by_test : (b : Bool) → (x == from) ≡ b → (In xs v → In (with_other from to xs) v) → In (x ∷ xs) v →
        ((if b then to else x) ≡ v) ⊎ In (with_other from to xs) v
    by_test true is rest (inl here) = absurd (apart (sym here ∙ eqb-true x from is))
    by_test false is rest (inl here) = inl here
    by_test true is rest (inr later) = inr (rest later)
    by_test false is rest (inr later) = inr (rest later)

-- .. and so is the one that took the place
pub In-with_other_to : (from to : ℕ) (xs : List ℕ) → In xs from → In (with_other from to xs) to
In-with_other_to from to [] h = absurd h
In-with_other_to from to (x ∷ xs) (inl here) = inl (ap (λ b. if b then to else x) (eq-eqb x from here))
In-with_other_to from to (x ∷ xs) (inr later) = inr (In-with_other_to from to xs later)

pub AreDistinct-with_other : (from to : ℕ) (xs : List ℕ) → (In xs to → ⊥) → AreDistinct xs →
    AreDistinct (with_other from to xs)
AreDistinct-with_other from to [] new d = tt
AreDistinct-with_other from to (x ∷ xs) new (head, rest) =
    grind (arith, In-with_other, AreDistinct-with_other from to xs (λ h. new (inr h)) rest)

-- ---- both

-- the test finds what is in the list
pub list_any-from_In : (to : ℕ) (xs : List ℕ) → In xs to → list_any (λ t. t == to) xs ≡ true
list_any-from_In to [] h = absurd h
list_any-from_In to (x ∷ xs) (inl here) = or_left (x == to) _ (eq-eqb x to here)
list_any-from_In to (x ∷ xs) (inr later) = or_right (x == to) _ (list_any-from_In to xs later)

pub In-from_list_any : (to : ℕ) (xs : List ℕ) → list_any (λ t. t == to) xs ≡ true → In xs to
In-from_list_any to [] h = cc
In-from_list_any to (x ∷ xs) h = ⊎_elim (λ (e : (x == to) ≡ true). inl (eqb-true x to e))
    (λ (later : list_any (λ t. t == to) xs ≡ true). inr (In-from_list_any to xs later)) (or_cases (x == to) _ h)

-- what is in the list where a terminal moved to another node
pub In-moved : (terminals : List ℕ) (from to v : ℕ) → In terminals from → In (moved terminals from to) v →
    (v ≡ to) ⊎ (In terminals v × (v ≡ from → ⊥))
In-moved terminals from to v has h = grind (arith, In-without, In-with_other)

-- .. the others are
pub In-moved_from : (terminals : List ℕ) (from to v : ℕ) → In terminals v → (v ≡ from → ⊥) →
    In (moved terminals from to) v
In-moved_from terminals from to v h apart = grind (arith, In-without_from, In-with_other_from)

-- .. and so is the node
pub In-moved_to : (terminals : List ℕ) (from to : ℕ) → In terminals from → (to ≡ from → ⊥) →
    In (moved terminals from to) to
In-moved_to terminals from to has apart = grind (arith, In-without_from, In-from_list_any, In-with_other_to)

pub AreDistinct-moved : (terminals : List ℕ) (from to : ℕ) → AreDistinct terminals →
    AreDistinct (moved terminals from to)
AreDistinct-moved terminals from to d =
    grind (arith, AreDistinct-without, AreDistinct-with_other, both_ways, list_any-from_In)

-- a list of distinct numbers that has one and is longer has another
pub another : (xs : List ℕ) (v : ℕ) → AreDistinct xs → In xs v → (length xs ≡ 1 → ⊥) →
    (w : ℕ) × In xs w × (w ≡ v → ⊥)
another [] v d h long = absurd h
another (x ∷ []) v d h long = absurd (long (omega arith))
another (x ∷ y ∷ xs) v (new, rest) (inl here) long = (y, inr (inl refl), λ e. new (inl (e ∙ sym here)))
another (x ∷ y ∷ xs) v (new, rest) (inr later) long = (x, inl refl, λ e. new (subst (In (y ∷ xs)) (sym e) later))

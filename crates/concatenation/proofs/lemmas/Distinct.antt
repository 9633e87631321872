-- How many distinct numbers a list has: the length of its ascending places.
use Rattle.std.proofs.Common.{ℕ, zero, suc, ◌≡◌, ◌+◌, ◌<◌, ◌≤◌, ◌⊎◌, inl, inr, Bool, true, false, eqb, ltb, if◌then◌else◌, List, [], ◌∷◌, length, map, get_or, arith, refl, sym, ◌∙◌, ap, subst}
use Rattle.std.specs.Prelude.{Contains}
use Rattle.std.proofs.lemmas.Bool.{eqb-true, cases_order}
use Rattle.std.proofs.lemmas.List.{length-map, get_or-map}
use Rattle.std.proofs.lemmas.List.Elements.{All-from_recursion, All-contains, Contains-get_or}
use Rattle.full_tree.specs.Code.{with_place, ascending_places}
use Rattle.full_tree.specs.MembersLaws.{Climbs, Climbs-ascending_places, Contains-ascending_places, Contains-from_ascending_places}

-- how many distinct numbers a list has
abbrev pub distinct_count : List ℕ → ℕ
distinct_count xs = length (ascending_places xs)

-- ---- what a list has

pub Contains-first : (x : ℕ) (xs : List ℕ) → Contains (x ∷ xs) x
Contains-first x xs = (0, omega arith, refl)

pub Contains-rest : (y x : ℕ) (xs : List ℕ) → Contains xs x → Contains (y ∷ xs) x
Contains-rest y x xs (k, inside, is) = (suc k, omega arith, is)

pub Contains-cases : (y x : ℕ) (xs : List ℕ) → Contains (y ∷ xs) x → (y ≡ x) ⊎ Contains xs x
Contains-cases y x xs (zero, inside, is) = inl is
Contains-cases y x xs (suc k, inside, is) = inr (k, omega arith, is)

pub Contains-map : (f : ℕ → ℕ) (xs : List ℕ) (x : ℕ) → Contains xs x → Contains (map f xs) (f x)
Contains-map f xs x (k, inside, is) = (k, omega (arith, inside, length-map xs f), get_or-map f xs k x (f x) inside ∙ ap f is)

pub Contains-from_map : (f : ℕ → ℕ) (xs : List ℕ) (y : ℕ) → Contains (map f xs) y → (x : ℕ) × Contains xs x × (f x ≡ y)
Contains-from_map f xs y (k, inside, is) =
    let within : k < length xs = omega (arith, inside, length-map xs f) in
    (get_or xs k 0, Contains-get_or xs k 0 within, sym (get_or-map f xs k 0 y within) ∙ is)

-- ---- a list within another has no more

-- the first of a list that climbs is below the others
below_rest : (x y : ℕ) (xs : List ℕ) → Climbs (x ∷ xs) → Contains xs y → x < y
below_rest x y xs climbs member =
    All-contains (λ z. x < z) xs y (All-from_recursion (λ z. x < z) xs climbs.0) member

climbing_within : (xs ys : List ℕ) → Climbs xs → Climbs ys → ((z : ℕ) → Contains xs z → Contains ys z) → length xs ≤ length ys
climbing_within [] ys climbs others into = omega arith
climbing_within (x ∷ xs) [] climbs others into =
    let (k, inside, is) = into x (Contains-first x xs) in absurd (omega (arith, inside))
climbing_within (x ∷ xs) (y ∷ ys) climbs others into = elim (cases_order x y) [
  | inl same ↦ omega (
    arith,
    climbing_within xs ys climbs.1 others.1 (λ z member.
        elim (Contains-cases y z ys (into z (Contains-rest x z xs member))) [
          | inl is ↦ absurd (omega (arith, below_rest x z xs climbs member))
          | inr later ↦ later
        ]),
  )
  | inr (inl below) ↦ elim (Contains-cases y x ys (into x (Contains-first x xs))) [
    | inl is ↦ absurd (omega arith)
    | inr later ↦ absurd (omega (arith, below_rest y x ys others later))
  ]
  | inr (inr above) ↦ omega (
    arith,
    climbing_within (x ∷ xs) ys climbs others.1 (λ z member.
        elim (Contains-cases y z ys (into z member)) [
          | inl is ↦ elim (Contains-cases x z xs member) [
            | inl first ↦ absurd (omega arith)
            | inr rest ↦ absurd (omega (arith, below_rest x z xs climbs rest))
          ]
          | inr later ↦ later
        ]),
  )
]

pub distinct_count-within : (xs ys : List ℕ) → ((z : ℕ) → Contains xs z → Contains ys z) → distinct_count xs ≤ distinct_count ys
distinct_count-within xs ys into =
    climbing_within (ascending_places xs) (ascending_places ys) (Climbs-ascending_places xs) (Climbs-ascending_places ys)
    (λ z member. Contains-ascending_places ys z (into z (Contains-from_ascending_places xs z member)))

-- ---- one number more

with_place-le : (x : ℕ) (xs : List ℕ) → length (with_place x xs) ≤ length xs + 1
with_place-le x [] = omega arith
with_place-le x (y ∷ ys) = cases (ltb x y) (eqb x y) (with_place-le x ys)
  where
    cases : (lower same : Bool) → length (with_place x ys) ≤ length ys + 1 →
        length (if lower then x ∷ y ∷ ys else (if same then y ∷ ys else y ∷ with_place x ys)) ≤ length (y ∷ ys) + 1
    cases true same rest = omega arith
    cases false true rest = omega arith
    cases false false rest = omega arith

with_place-new : (x : ℕ) (xs : List ℕ) → Contains xs x ⊎ (length (with_place x xs) ≡ length xs + 1)
with_place-new x [] = inr refl
with_place-new x (y ∷ ys) = cases (ltb x y) (eqb x y) refl (with_place-new x ys)
  where
    cases : (lower same : Bool) → eqb x y ≡ same → Contains ys x ⊎ (length (with_place x ys) ≡ length ys + 1) →
        Contains (y ∷ ys) x ⊎
        (length (if lower then x ∷ y ∷ ys else (if same then y ∷ ys else y ∷ with_place x ys)) ≡ length (y ∷ ys) + 1)
    cases true same is rest = inr (omega arith)
    cases false true is rest = inl (0, omega arith, sym (eqb-true x y is))
    cases false false is (inl member) = inl (Contains-rest y x ys member)
    cases false false is (inr more) = inr (omega arith)

-- one number more is at most one more
pub distinct_count-cons_le : (x : ℕ) (xs : List ℕ) → distinct_count (x ∷ xs) ≤ distinct_count xs + 1
distinct_count-cons_le x xs = with_place-le x (ascending_places xs)

-- .. and one more where it is new
pub distinct_count-cons : (x : ℕ) (xs : List ℕ) → Contains xs x ⊎ (distinct_count (x ∷ xs) ≡ distinct_count xs + 1)
distinct_count-cons x xs = elim (with_place-new x (ascending_places xs)) [
  | inl member ↦ inl (Contains-from_ascending_places xs x member)
  | inr more ↦ inr more
]

-- a map can only lose
pub distinct_count-map : (f : ℕ → ℕ) (xs : List ℕ) → distinct_count (map f xs) ≤ distinct_count xs
distinct_count-map f [] = omega arith
distinct_count-map f (x ∷ xs) = elim (distinct_count-cons x xs) [
  | inl member ↦ omega (
    arith,
    distinct_count-map f xs,
    distinct_count-within xs (x ∷ xs) (λ z. Contains-rest x z xs),
    distinct_count-within (f x ∷ map f xs) (map f xs) (λ z there. elim (Contains-cases (f x) z (map f xs) there) [
      | inl is ↦ subst (λ y. Contains (map f xs) y) is (Contains-map f xs x member)
      | inr later ↦ later
    ]),
  )
  | inr more ↦ omega (arith, distinct_count-map f xs, distinct_count-cons_le (f x) (map f xs))
]

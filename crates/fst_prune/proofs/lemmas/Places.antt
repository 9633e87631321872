-- What stands at places of lists.
use Rattle.std.proofs.Common.{ℕ, zero, suc, ◌≡◌, ◌<◌, List, [], ◌∷◌, ◌++◌, length, get_or, refl, sym, ◌∙◌, arith, inl, inr, ◌⊎◌, Some}
use Rattle.std.specs.Prelude.{Contains, slice_get}
use Rattle.std.specs.List.{AllByRecursion}
use Rattle.std.proofs.lemmas.Grind.{get_or_default_zero}
use Rattle.std.proofs.lemmas.Option.{same_Some}
use Rattle.full_tree.specs.MembersLaws.{Climbs}

-- what stands in a list stands there still with one more behind it
pub slice_get_push_old : {X : Type 0} (xs : List X) (y : X) (n : ℕ) (x : X) → slice_get xs n ≡ Some x → slice_get (xs ++ y ∷ []) n ≡ Some x
slice_get_push_old [] y n x at = absurd cc
slice_get_push_old (z ∷ xs) y zero x at = at
slice_get_push_old (z ∷ xs) y (suc n) x at = slice_get_push_old xs y n x at

-- .. which stands last
pub slice_get_push_last : {X : Type 0} (xs : List X) (y : X) → slice_get (xs ++ y ∷ []) (length xs) ≡ Some y
slice_get_push_last [] y = refl
slice_get_push_last (z ∷ xs) y = slice_get_push_last xs y

pub slice_get_push_cases : {X : Type 0} (xs : List X) (y : X) (n : ℕ) (x : X) → slice_get (xs ++ y ∷ []) n ≡ Some x
    → (slice_get xs n ≡ Some x) ⊎ ((y ≡ x) × (n ≡ length xs))
slice_get_push_cases [] y zero x at = inr (same_Some y x at, refl)
slice_get_push_cases [] y (suc n) x at = absurd cc
slice_get_push_cases (z ∷ xs) y zero x at = inl at
slice_get_push_cases (z ∷ xs) y (suc n) x at = grind (arith, slice_get_push_cases xs y n x at)

-- what holds of each item holds of the one at a place
all_at : (P : ℕ → Type 0) (ps : List ℕ) (k : ℕ) → AllByRecursion P ps → k < length ps → P (get_or ps k 0)
all_at P [] k all inside = absurd (omega arith)
all_at P (p ∷ ps) zero all inside = all.0
all_at P (p ∷ ps) (suc k) all inside = all_at P ps k all.1 (omega arith)

-- in a list that climbs, what stands earlier is less
pub climbs_at : (ps : List ℕ) (i j : ℕ) → Climbs ps → i < j → j < length ps → get_or ps i 0 < get_or ps j 0
climbs_at [] i j climbs before inside = absurd (omega arith)
climbs_at (p ∷ ps) i zero climbs before inside = absurd (omega arith)
climbs_at (p ∷ ps) zero (suc j) climbs before inside = all_at (λ q. p < q) ps j climbs.0 (omega arith)
climbs_at (p ∷ ps) (suc i) (suc j) climbs before inside = climbs_at ps i j climbs.1 (omega arith) (omega arith)

-- .. so that each item stands at one place
pub climbs_one : (ps : List ℕ) (i j : ℕ) → Climbs ps → i < length ps → j < length ps → get_or ps i 0 ≡ get_or ps j 0 → i ≡ j
climbs_one ps i j climbs i_in j_in same = grind (arith, climbs_at)

-- .. and less stands earlier
pub climbs_before : (ps : List ℕ) (i j : ℕ) → Climbs ps → i < length ps → j < length ps → get_or ps i 0 < get_or ps j 0 → i < j
climbs_before ps i j climbs i_in j_in less = grind (arith, climbs_at)

-- two places that climb
pub climbs_two : (p q : ℕ) → p < q → Climbs (p ∷ q ∷ [])
climbs_two p q less = ((less, tt), (tt, tt))

-- where a member stands
pub place_of : (ps : List ℕ) (p : ℕ) → Contains ps p → (k : ℕ) × (k < length ps) × (get_or ps k 0 ≡ p)
place_of ps p (k, inside, is) = (k, inside, sym (get_or_default_zero ps k p inside) ∙ is)

-- what stands at a place is a member
pub member_at : (ps : List ℕ) (k : ℕ) → k < length ps → Contains ps (get_or ps k 0)
member_at ps k inside = (k, inside, get_or_default_zero ps k (get_or ps k 0) inside)

-- Sets of places as tests, and how one place is put in or taken out.
use Rattle.std.specs.Prelude.{ℕ, zero, suc, ◌≡◌, ◌==◌, Bool, true, false, List, [], ◌∷◌, slice_get, slice_set, Some, if◌then◌else◌, ◌⊎◌}
use Rattle.std.proofs.Common.{refl, ap, arith, length-set}
use Rattle.std.proofs.lemmas.Bool.{cases_eq, eq-eqb, ne_eqb}
use Rattle.std.proofs.lemmas.List.{set-set}
use Rattle.std.proofs.lemmas.Option.{slice_get_within, same_Some}
use Rattle.net_graph.specs.EntryLaws.{slice_get-set_same, slice_get-set_other}

-- the same set but for one number
abbrev pub put : (ℕ → Bool) → ℕ → Bool → ℕ → Bool
put F n flag k = if k == n then flag else F k

pub put_same : (F : ℕ → Bool) (n : ℕ) (flag : Bool) → put F n flag n ≡ flag
put_same F n flag = ap (λ b. if b then flag else F n) (eq-eqb n n refl)

pub put_other : (F : ℕ → Bool) (n : ℕ) (flag : Bool) (k : ℕ) → (k ≡ n → ⊥) → put F n flag k ≡ F k
put_other F n flag k apart = ap (λ b. if b then flag else F k) (ne_eqb k n apart)

-- what is chosen where one place was taken out is another, and was chosen before
pub put_out : (F : ℕ → Bool) (n k : ℕ) → put F n false k ≡ true → (k ≡ n → ⊥) × (F k ≡ true)
put_out F n k chosen = grind arith

-- what was chosen is so where one more place is put in
pub put_in : (F : ℕ → Bool) (n k : ℕ) → F k ≡ true → put F n true k ≡ true
put_in F n k chosen = grind arith

-- what is found in a list in which one entry was written was written there, or found there before
pub set_cases : {A : Type 0} (xs : List A) (n k : ℕ) (x y : A) → slice_get (slice_set xs n x) k ≡ Some y →
    ((k ≡ n) × (x ≡ y)) ⊎ ((k ≡ n → ⊥) × (slice_get xs k ≡ Some y))
set_cases xs n k x y found =
    grind (arith, cases_eq k n, same_Some, slice_get-set_other, slice_get-set_same, slice_get_within, length-set xs n x)

-- one entry is written over, before and after another was
pub set_over : {A : Type 0} (xs : List A) (i j : ℕ) (a b c : A) → (i ≡ j → ⊥) →
    slice_set (slice_set (slice_set xs i a) j b) i c ≡ slice_set (slice_set xs i c) j b
set_over [] i j a b c apart = refl
set_over (x ∷ xs) zero zero a b c apart = absurd (apart refl)
set_over (x ∷ xs) zero (suc j) a b c apart = refl
set_over (x ∷ xs) (suc i) zero a b c apart = ap (λ more. b ∷ more) (set-set xs i a c)
set_over (x ∷ xs) (suc i) (suc j) a b c apart = search (set_over xs i j a b c (λ same. apart (ap suc same)))

-- Lines that come of a sort, and the place of a value among them.
use Rattle.std.proofs.Common.{ℕ, zero, suc, ◌≡◌, ◌<◌, ◌≤◌, true, false, ℤ, pos, ◌<ℤ◌, List, [], ◌∷◌, length, refl, ap, arith, inl, inr, Less}
use Rattle.std.specs.Prelude.{int_lt}
use Rattle.std.specs.Ordering.{int_cmp, int_eq}
use Rattle.std.specs.List.{AllByRecursion, dedup}
use Rattle.std.specs.List.Sorted.{IsSorted, IsStrictlySortedBy, IsPermutation, IsPartitionedBy, IsPartitionPoint}
use Rattle.std.proofs.lemmas.Bool.{cases_lt}
use Rattle.std.proofs.lemmas.Bool.Decides.{Decides-int_eq}
use Rattle.std.proofs.lemmas.Cmp.{int_cmp_total, int_eq_equiv}
use Rattle.std.proofs.lemmas.Int.{ints}
use Rattle.std.proofs.lemmas.List.{get_or_default}
use Rattle.std.proofs.lemmas.List.Kept.{Contains-dedup, Contains-from_dedup, IsStrictlySortedBy-dedup}
use Rattle.std.proofs.lemmas.List.Sorted.{Contains-permutation, IsPermutation-sym}
use Rattle.hanan_grid.specs.Lines.{ascending, line_at, place_of}
use Rattle.hanan_grid.specs.LinesLaws.{IsRising, IsRising-ascending, Contains-ascending, Contains-from_ascending, same_from_members, line_at-rises}

-- the same of all values of a list
all_higher : (x : ℤ) (ys : List ℤ) → AllByRecursion (λ y. int_cmp x y ≡ Less) ys → AllByRecursion (λ y. x <ℤ y) ys
all_higher x [] all = tt
all_higher x (y ∷ ys) all = ((grind (arith, ints)), all_higher x ys all.1)

-- a strictly sorted list rises
IsRising-from_sorted : (xs : List ℤ) → IsStrictlySortedBy int_cmp xs → IsRising xs
unfolding IsStrictlySortedBy
IsRising-from_sorted [] sorted = tt
IsRising-from_sorted (x ∷ xs) sorted = (all_higher x xs sorted.0, IsRising-from_sorted xs sorted.1)

-- a sorted list without its repeats is the ascending values of what was sorted
pub ascending_from_sort : (values sorted : List ℤ) → IsPermutation values sorted → IsSorted int_cmp sorted → dedup int_eq sorted ≡ ascending values
ascending_from_sort values sorted moved up = same_from_members (dedup int_eq sorted) (ascending values)
    (IsRising-from_sorted (dedup int_eq sorted) (IsStrictlySortedBy-dedup int_cmp_total (λ x y. refl) sorted up))
    (IsRising-ascending values)
    (λ z member. Contains-ascending values z (Contains-permutation sorted values z (IsPermutation-sym values sorted moved) (Contains-from_dedup int_eq sorted z member)))
    (λ z member. Contains-dedup int_eq_equiv (λ x y. (Decides-int_eq x y).0) sorted z (Contains-permutation values sorted z moved (Contains-from_ascending values z member)))

-- what is no lower than a lower value is that far down too
lower_before : (lines : List ℤ) (z : ℤ) (i j : ℕ) → i ≤ j → j < length lines → IsRising lines → int_lt (line_at lines j) z ≡ true → int_lt (line_at lines i) z ≡ true
lower_before lines z i j earlier inside rises lower = elim (cases_lt i j) [
  | inl before ↦ let rise = line_at-rises lines i j before inside rises in grind (arith, ints)
  | inr here ↦ let same : i ≡ j = omega arith in rw same lower
]

-- no line below a value comes after one that is not
pub parted_by : (lines : List ℤ) (z : ℤ) → IsRising lines → IsPartitionedBy (λ y. int_lt y z) lines
parted_by lines z rises i j d earlier inside lower =
    rw (get_or_default lines i d (pos 0) (omega arith)) (lower_before lines z i j earlier inside rises (rw (get_or_default lines j d (pos 0) inside) at lower))

-- the point that parts the lines below a value from the others is its place
pub place_of_from_parted : (lines : List ℤ) (z : ℤ) (i : ℕ) → i ≤ length lines → IsPartitionPoint (λ y. int_lt y z ≡ true) (λ y. int_lt y z ≡ false) lines i → i ≡ place_of z lines
place_of_from_parted [] z i inside parted = omega arith
place_of_from_parted (y ∷ ys) z zero inside parted = rw (parted.1 0 (pos 0) (omega arith) (omega arith)) refl
place_of_from_parted (y ∷ ys) z (suc i) inside parted = rw (parted.0 0 (pos 0) (omega arith) (omega arith))
    (ap suc (place_of_from_parted ys z i (omega arith) (λ k d low high. parted.0 (suc k) d (omega arith) (omega arith), λ k d low high. parted.1 (suc k) d (omega arith) (omega arith))))

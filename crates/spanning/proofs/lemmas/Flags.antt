-- Flags that are written.
use Rattle.std.proofs.Common.{ℕ, zero, suc, ◌≡◌, ◌≢◌, ◌<◌, ◌⊎◌, Bool, true, false, List, [], ◌∷◌, length, Some, slice_get, set, refl, arith, ap}
use Rattle.std.proofs.lemmas.Bool.{cases_eq}
use Rattle.std.proofs.lemmas.List.{get_or-set_same, get_or-set_other}
use Rattle.std.proofs.lemmas.Option.{slice_get_within}
use Rattle.net_graph.specs.Flags.{has}

-- the flag that was written
pub slice_get-set_same : (flags : List Bool) (k : ℕ) (flag : Bool) → k < length flags →
    slice_get (set flags k flag) k ≡ Some flag
slice_get-set_same [] k flag within = absurd (omega arith)
slice_get-set_same (x ∷ flags) zero flag within = refl
slice_get-set_same (x ∷ flags) (suc k) flag within = slice_get-set_same flags k flag (omega arith)

-- another flag
pub slice_get-set_other : (flags : List Bool) (k j : ℕ) (flag : Bool) → j ≢ k →
    slice_get (set flags k flag) j ≡ slice_get flags j
slice_get-set_other [] k j flag apart = refl
slice_get-set_other (x ∷ flags) zero zero flag apart = absurd (apart refl)
slice_get-set_other (x ∷ flags) zero (suc j) flag apart = refl
slice_get-set_other (x ∷ flags) (suc k) zero flag apart = refl
slice_get-set_other (x ∷ flags) (suc k) (suc j) flag apart = slice_get-set_other flags k j flag (λ same. apart (ap suc same))

-- what was set stays set where one more flag is
pub slice_get-set_true : (flags : List Bool) (k j : ℕ) → slice_get flags j ≡ Some true →
    slice_get (set flags k true) j ≡ Some true
slice_get-set_true flags k j is =
    grind (arith, cases_eq j k, slice_get_within flags j true is, slice_get-set_same, slice_get-set_other)

-- a number that was put in is in
pub has-set_same : (flags : List Bool) (k : ℕ) → k < length flags → has (set flags k true) k ≡ true
has-set_same flags k within = get_or-set_same flags k true false within

-- what was in stays in
pub has-set_true : (flags : List Bool) (k j : ℕ) → k < length flags → has flags j ≡ true →
    has (set flags k true) j ≡ true
has-set_true flags k j within is = grind (arith, cases_eq j k, has-set_same flags k within, get_or-set_other)

-- what is in after one number was put in
pub has-set_cases : (flags : List Bool) (k j : ℕ) → has (set flags k true) j ≡ true →
    (j ≡ k) ⊎ (has flags j ≡ true)
has-set_cases flags k j is = grind (arith, cases_eq j k, get_or-set_other)

-- Which edges have a line, and one more of them at a time.
use Rattle.std.proofs.Common.{ℕ, zero, suc, ◌≡◌, ◌+◌, ◌<◌, ◌≤◌, Bool, true, false, List, [], ◌∷◌, ◌++◌, length, filter, flat_map, length-append, inl, inr, ⊎_elim, refl, sym, ap, subst, ◌∙◌, arith, ltb-true}
use Rattle.std.specs.Prelude.{if◌then◌else◌, Contains, Some, slice_index}
use Rattle.std.specs.List.{range_with_len}
use Rattle.std.proofs.lemmas.Bool.{cases_lt, false_from_ne_true, ltb-false}
use Rattle.std.proofs.lemmas.Grind.{flat_map-append}
use Rattle.std.proofs.lemmas.List.Elements.{filter-append, Contains-append_cases, Contains-append_left, Contains-append_right}
use Rattle.lists.specs.ListLaws.{flat_map-if}
use Rattle.text_out.specs.GatherLaws.{range_more}
use Rattle.slack_tools.specs.Text.{is_above, listed}

-- the numbers that pass, and one more
pub passing_more : (p : ℕ → Bool) (n : ℕ) →
    filter p (range_with_len 0 (n + 1)) ≡ filter p (range_with_len 0 n) ++ (if p n then n ∷ [] else [])
passing_more p n = ap (filter p) (range_more n) ∙ filter-append p (range_with_len 0 n) (n ∷ [])

-- how many they are
pub passing_count : (p : ℕ → Bool) (n : ℕ) →
    length (filter p (range_with_len 0 (n + 1))) ≡ length (filter p (range_with_len 0 n)) + (if p n then 1 else 0)
passing_count p n =
    grind (arith, passing_more p n, length-append (filter p (range_with_len 0 n)) (if p n then n ∷ [] else []), p n)

-- their text
pub passing_text : (f : ℕ → List ℕ) (p : ℕ → Bool) (n : ℕ) →
    flat_map f (filter p (range_with_len 0 n)) ++ (if p n then f n else [])
    ≡ flat_map f (filter p (range_with_len 0 (n + 1)))
passing_text f p n =
    grind (
      arith,
      flat_map-if f (p n) n,
      p n,
      flat_map-append f (filter p (range_with_len 0 n)) (if p n then n ∷ [] else []),
      passing_more p n,
    )

-- the number is the one that may be there
only_one : (flag : Bool) (n e : ℕ) → Contains (if flag then n ∷ [] else []) e → (e ≡ n) × (flag ≡ true)
only_one true n e (zero, within, is) = (sym is, refl)
only_one true n e (suc k, within, is) = absurd (omega (arith, within))
only_one false n e (k, within, is) = absurd (omega (arith, within))

-- a number that passes is below the end
pub passing-from : (p : ℕ → Bool) (n e : ℕ) → Contains (filter p (range_with_len 0 n)) e → (e < n) × (p e ≡ true)
passing-from p zero e (k, within, is) = absurd (omega (arith, within))
passing-from p (suc n) e inside =
    let more : n + 1 ≡ suc n = omega arith in
    let parts : filter p (range_with_len 0 (suc n)) ≡ filter p (range_with_len 0 n) ++ (if p n then n ∷ [] else []) =
    ap (λ k. filter p (range_with_len 0 k)) (sym more) ∙ passing_more p n in
    ⊎_elim
    (λ (before : Contains (filter p (range_with_len 0 n)) e).
    let there = passing-from p n e before in (omega (arith, there.0), there.1))
    (λ (last : Contains (if p n then n ∷ [] else []) e).
    let is = only_one (p n) n e last in (omega (arith, is.0), ap p is.0 ∙ is.1))
    (Contains-append_cases (filter p (range_with_len 0 n)) (if p n then n ∷ [] else []) e
    (subst (λ ys. Contains ys e) parts inside))

-- .. and each below the end that passes is there
pub passing-holds : (p : ℕ → Bool) (n e : ℕ) → e < n → p e ≡ true → Contains (filter p (range_with_len 0 n)) e
passing-holds p zero e below passes = absurd (omega arith)
passing-holds p (suc n) e below passes =
    let more : n + 1 ≡ suc n = omega arith in
    let parts : filter p (range_with_len 0 n) ++ (if p n then n ∷ [] else []) ≡ filter p (range_with_len 0 (suc n)) =
    sym (passing_more p n) ∙ ap (λ k. filter p (range_with_len 0 k)) more in
    subst (λ ys. Contains ys e) parts (elim (cases_lt e n) [
      | inl before ↦
          Contains-append_left (filter p (range_with_len 0 n)) (if p n then n ∷ [] else []) e
          (passing-holds p n e before passes)
      | inr last ↦
          let same : e ≡ n = omega arith in
          let flag : p n ≡ true = ap p (sym same) ∙ passes in
          let one : n ∷ [] ≡ (if p n then n ∷ [] else []) = rw flag refl in
          Contains-append_right (filter p (range_with_len 0 n)) (if p n then n ∷ [] else []) e
          (subst (λ ys. Contains ys e) one (0, omega arith, sym same))
    ])

-- An edge that has a line is one, and its bound is above the threshold.
pub listed-above : (most : ℕ) (bounds : List ℕ) (e : ℕ) → Contains (listed (Some most) bounds) e →
    most < slice_index bounds e
listed-above most bounds e inside =
    let (below, passes) = passing-from (λ n. is_above (Some most) (slice_index bounds n)) (length bounds) e inside in
    ltb-true most (slice_index bounds e) passes

-- An edge without a line has a bound of at most the threshold.
pub unlisted-within : (most : ℕ) (bounds : List ℕ) (e : ℕ) → e < length bounds →
    (Contains (listed (Some most) bounds) e → ⊥) → slice_index bounds e ≤ most
unlisted-within most bounds e within none =
    ltb-false most (slice_index bounds e)
    (false_from_ne_true (is_above (Some most) (slice_index bounds e))
    (λ passes. none (passing-holds (λ n. is_above (Some most) (slice_index bounds n)) (length bounds) e within passes)))

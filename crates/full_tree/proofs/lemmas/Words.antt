-- Words of sets of places, place by place.
use Rattle.std.proofs.Common.{ℕ, ◌≡◌, ◌+◌, ◌*◌, ◌^◌, ◌%◌, ◌<◌, List, [], ◌∷◌, ◌++◌, length, take, get_or, sym, subst, ◌∙◌, ⊎_elim}
use Rattle.std.specs.Prelude.{◌≢◌, bit_or, Contains}
use Rattle.std.specs.Int.{bit_at}
use Rattle.std.proofs.lemmas.Bool.{cases_eq}
use Rattle.std.proofs.lemmas.List.{take_more}
use Rattle.std.proofs.lemmas.List.Elements.{Contains-append_left, Contains-push, Contains-push_cases}
use Rattle.std.proofs.lemmas.Nat.Bits.{bit_at_set_same, bit_at_set_other}
use mir.Syntax.{w64}
use Rattle.full_tree.specs.Word.{IsWordOf}

-- one place more
pub IsWordOf-more : (word : ℕ) (xs : List ℕ) (i : ℕ) → i < length xs → get_or xs i 0 < 64 → IsWordOf word (take i xs)
    → IsWordOf (bit_or word (1 * 2 ^ get_or xs i 0 % 18446744073709551616)) (take (i + 1) xs)
IsWordOf-more word xs i inside small is =
    let x = get_or xs i 0 in
    let new = bit_or word (1 * 2 ^ x % 18446744073709551616) in
    let here : bit_at new x ≡ 1 = bit_at_set_same w64 word x small in
    let other : (q : ℕ) → q ≢ x → bit_at new q ≡ bit_at word q = λ q apart. bit_at_set_other w64 word x small q apart in
    subst (λ zs. IsWordOf new zs) (sym (take_more xs i 0 inside)) record {
      has = λ q member. ⊎_elim
          (λ (same : q ≡ x). subst (λ r. bit_at new r ≡ 1) (sym same) here)
          (λ (apart : q ≡ x → ⊥). other q apart ∙ ⊎_elim
          (λ (old : Contains (take i xs) q). is.has q old)
          (λ (same : x ≡ q). absurd (apart (sym same)))
          (Contains-push_cases (take i xs) x q member))
          (cases_eq q x);
      only = λ q one. ⊎_elim
          (λ (same : q ≡ x). subst (λ r. Contains (take i xs ++ x ∷ []) r) (sym same) (Contains-push (take i xs) x))
          (λ (apart : q ≡ x → ⊥). Contains-append_left (take i xs) (x ∷ []) q (is.only q (sym (other q apart) ∙ one)))
          (cases_eq q x);
    }

-- The digits of a set, by its words.
use Rattle.std.proofs.Common.{ℕ, ◌≡◌, ◌+◌, ◌-◌, ◌*◌, ◌/◌, ◌%◌, ◌^◌, ◌<◌, Bool, List, [], ◌∷◌, ◌++◌, map, length, take, get_or, bit_and, min, eqb, refl, ap, sym, ◌∙◌, arith}
use Rattle.std.specs.Int.{bit_at}
use Rattle.std.specs.List.{range_with_len}
use Rattle.std.proofs.Math.Nat.{div-div-eq-div-mul}
use Rattle.std.proofs.lemmas.Nat.{pow-add, one_shl, and_mask}
use Rattle.std.proofs.lemmas.Nat.Bits.{bit_at_and, bit_at_ones, bit_at_ones_above}
use Rattle.std.proofs.lemmas.Bool.{cases_lt}
use Rattle.std.proofs.lemmas.List.{get_or_past}
use Rattle.std.proofs.lemmas.List.FromFn.{get_or-map-range_with_len}
use Rattle.net_graph.specs.Flags.{has}
use Rattle.answer_text.specs.Words.{four_digit, set_text}
use Rattle.answer_text.specs.SetLaws.{digit_in_word, digit_at_place, take_set_text-run, take_set_text-all}

-- ---- the flags of a word

-- the lowest bits of a word are kept by a mask of so many ones
bit_in_mask : (word k r : ℕ) → r < k → bit_at (bit_and word (2 ^ k - 1)) r ≡ bit_at word r
bit_in_mask word k r below = grind (arith, bit_at_and, bit_at_ones)

-- a word of a set without what stands past the set's end
pub flag_within : (set : List Bool) (word place r : ℕ) → 64 * place < length set → length set - 64 * place < 64
    → ((r : ℕ) → r < 64 → 64 * place + r < length set → has set (64 * place + r) ≡ eqb (bit_at word r) 1)
    → has set (64 * place + r) ≡ eqb (bit_at (bit_and word (1 * 2 ^ (length set - 64 * place) % 2 ^ 64 - 1)) r) 1
flag_within set word place r inside last told =
    grind (arith, one_shl (length set - 64 * place) 64 last, bit_in_mask, get_or_past, bit_at_and, bit_at_ones_above, cases_lt r (length set - 64 * place))

-- ---- the digits of a word

-- the digit of four bits, by the table
digit_by_table : (value : ℕ) → value < 16 →
    get_or {A = ℕ} (48 ∷ 56 ∷ 52 ∷ 99 ∷ 50 ∷ 97 ∷ 54 ∷ 101 ∷ 49 ∷ 57 ∷ 53 ∷ 100 ∷ 51 ∷ 98 ∷ 55 ∷ 102 ∷ []) value 0
    ≡ four_digit (eqb (bit_at value 0) 1) (eqb (bit_at value 1) 1) (eqb (bit_at value 2) 1) (eqb (bit_at value 3) 1)
digit_by_table value below =
    let table : ℕ → ℕ = λ v. get_or {A = ℕ} (48 ∷ 56 ∷ 52 ∷ 99 ∷ 50 ∷ 97 ∷ 54 ∷ 101 ∷ 49 ∷ 57 ∷ 53 ∷ 100 ∷ 51 ∷ 98 ∷ 55 ∷ 102 ∷ []) v 0 in
    let digit : ℕ → ℕ = λ v. four_digit (eqb (bit_at v 0) 1) (eqb (bit_at v 1) 1) (eqb (bit_at v 2) 1) (eqb (bit_at v 3) 1) in
    let same : map table (range_with_len 0 16) ≡ map digit (range_with_len 0 16) = refl in
    sym (get_or-map-range_with_len table 0 16 value value 0 below (omega arith))
    ∙ ap (λ l. get_or l value 0) same
    ∙ get_or-map-range_with_len digit 0 16 value value 0 below (omega arith)

-- a bit of the four from a place of four on
bit_of_four : (word n i : ℕ) → i < 4 → bit_at (bit_and (word / 2 ^ (4 * n)) 15) i ≡ bit_at word (4 * n + i)
bit_of_four word n i low =
    grind (arith, bit_in_mask (word / 2 ^ (4 * n)) 4 i low, div-div-eq-div-mul word (2 ^ (4 * n)) (2 ^ i), pow-add 2 (4 * n) i)

-- the digit at a place of a word
pub word_digit : (word n : ℕ) →
    get_or {A = ℕ} (48 ∷ 56 ∷ 52 ∷ 99 ∷ 50 ∷ 97 ∷ 54 ∷ 101 ∷ 49 ∷ 57 ∷ 53 ∷ 100 ∷ 51 ∷ 98 ∷ 55 ∷ 102 ∷ []) (bit_and (word / 2 ^ (4 * n)) 15) 0
    ≡ digit_in_word word n
word_digit word n =
    let few : bit_and (word / 2 ^ (4 * n)) 15 < 16 = omega (arith, and_mask (word / 2 ^ (4 * n)) 4) in
    let first : 4 * n + 0 ≡ 4 * n = omega arith in
    digit_by_table (bit_and (word / 2 ^ (4 * n)) 15) few
    ∙ (λ i. four_digit (eqb (bit_of_four word n 0 (omega arith) i) 1) (eqb (bit_of_four word n 1 (omega arith) i) 1)
    (eqb (bit_of_four word n 2 (omega arith) i) 1) (eqb (bit_of_four word n 3 (omega arith) i) 1))
    ∙ ap (λ v. four_digit (eqb (bit_at word v) 1) (eqb (bit_at word (4 * n + 1)) 1) (eqb (bit_at word (4 * n + 2)) 1)
    (eqb (bit_at word (4 * n + 3)) 1)) first

-- ---- the digits of all words

-- sixteen digits more, or as many as are left
pub take_set_text-word : (set : List Bool) (digits : List ℕ) (place count : ℕ) → 16 * place < (length set + 3) / 4
    → count ≡ min ((length set + 3) / 4 - 16 * place) 16 → 15 < length digits
    → ((n : ℕ) → n < 16 → get_or digits n 0 ≡ digit_at_place set (16 * place + n))
    → take (16 * place) (set_text set) ++ take count digits ≡ take (16 * (place + 1)) (set_text set)
take_set_text-word set digits place count inside is enough are = grind (arith, take_set_text-run, take_set_text-all)

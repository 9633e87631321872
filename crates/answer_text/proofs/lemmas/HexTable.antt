-- The table of the values of digits, by their bytes.
use Rattle.std.proofs.Common.{ℕ, ◌≡◌, ◌<◌, ◌≤◌, Bool, true, false, List, ◌∷◌, ◌++◌, map, replicate, get_or, refl, sym, ap, subst, ◌∙◌, arith}
use Rattle.std.specs.Prelude.{◌==◌, ◌||◌, nat_le}
use Rattle.std.specs.List.{range_with_len}
use Rattle.std.specs.Fmt.{digit_glyph}
use Rattle.std.proofs.lemmas.Bool.Decides.{nat_tests}
use Rattle.std.proofs.lemmas.List.FromFn.{get_or-map-range_with_len}

-- the values by the bytes from 0 to 255, and 16 for a byte that is no digit
abbrev pub values : List ℕ
values =
    replicate 48 16 ++ 0 ∷ 1 ∷ 2 ∷ 3 ∷ 4 ∷ 5 ∷ 6 ∷ 7 ∷ 8 ∷ 9 ∷
    (replicate 39 16 ++ 10 ∷ 11 ∷ 12 ∷ 13 ∷ 14 ∷ 15 ∷ replicate 153 16)

-- what agrees at each number below a size, one after another, agrees at any
at_number : {X : Type 0} (f g : ℕ → X) (size : ℕ)
    → map f (range_with_len 0 size) ≡ map g (range_with_len 0 size) → (n : ℕ) → n < size → f n ≡ g n
at_number f g size same n below =
    sym (get_or-map-range_with_len f 0 size n n (f n) below (omega arith))
    ∙ ap (λ l. get_or l n (f n)) same
    ∙ get_or-map-range_with_len g 0 size n n (f n) below (omega arith)

-- a byte has no value, or is the digit of its value
abbrev is_digit_of : ℕ → ℕ → Bool
is_digit_of value byte = nat_le 16 value || byte == digit_glyph false value

told : (value byte digit : ℕ) → value < 16 → (nat_le 16 value || byte == digit) ≡ true → byte ≡ digit
told value byte digit low is = grind (arith, nat_tests)

pub digit_by_table : (byte : ℕ) → byte < 256 → get_or values byte 0 < 16
    → (get_or values byte 0 < 16) × (byte ≡ digit_glyph false (get_or values byte 0))
digit_by_table byte within low =
    let value = get_or values byte 0 in
    let test = at_number (λ b. is_digit_of (get_or values b 0) b) (λ b. true) 256 refl byte within in
    (low, told value byte (digit_glyph false value) low test)

-- the digit of a value has that value
pub no_digit_by_table : (byte : ℕ) → 16 ≤ get_or values byte 0
    → (value : ℕ) → value < 16 → byte ≡ digit_glyph false value → ⊥
no_digit_by_table byte high value low is =
    let same : get_or values (digit_glyph false value) 0 ≡ value =
    at_number (λ v. get_or values (digit_glyph false v) 0) (λ v. v) 16 refl value low in
    let here : 16 ≤ get_or values (digit_glyph false value) 0 = subst (λ b. 16 ≤ get_or values b 0) is high in
    omega arith

-- Why the bytes before the first blank are a number, or none.
use Rattle.std.specs.Prelude.{ℕ, zero, suc, ℤ, pos, neg_ℤ, FitsSigned, ◌+◌, ◌-◌, ◌*◌, ◌^◌, ◌<◌, ◌≤◌, ◌≡◌, ◌==◌, Bool, true, false, cond, not, min, List, [], ◌∷◌, length, take, drop}
use Rattle.std.specs.List.{position_or_len, slice_index}
use Rattle.std.specs.Int.{IsInRange, w64}
use Rattle.std.specs.Str.Parse.{IsNumeral, AllDigits, digits_value, starts_with_minus, without_leading_sign}
use Rattle.std.proofs.Common.{arith, refl, sym, ap, subst, ◌∙◌, get_or, inl, inr, one-add}
use Rattle.std.proofs.lemmas.Bool.{cases_lt, cases_Bool, cases_order, ne_eqb, eqb-true, true≢false}
use Rattle.std.proofs.lemmas.List.{get_or-take, length-take-le}
use Rattle.std.proofs.lemmas.List.Sums.{prefix_len-le-length, passes_at_first, position_or_len_is}
use Rattle.std.proofs.lemmas.Int.Digits.{digits_more, digits_value_more}
use Rattle.std.proofs.lemmas.Str.{digit_value_digit}
use Rattle.std.proofs.lemmas.Str.Parse.{digit_at}
use Rattle.points_in.specs.Words.{is_blank, front_word}
use Rattle.points_in.specs.Number.{IsNumberWord, IsNumber, number_of}
use Rattle.points_in.proofs.lemmas.Words.{length-front_word}

-- a digit is no blank
pub digit_no_blank : (b : ℕ) → IsInRange 48 57 b → is_blank b ≡ false
digit_no_blank b digit =
    rw (ne_eqb b 32 (λ e. omega arith), ne_eqb b 9 (λ e. omega arith), ne_eqb b 10 (λ e. omega arith), ne_eqb b 13 (λ e. omega arith)) refl

-- the digits so far, and what they spell where that is below 2^64-1
pub record AreDigits (bytes : List ℕ) (len magnitude : ℕ) : Type 0 where
  pub within : len ≤ length bytes
  pub digits : AllDigits 10 (take len bytes)
  pub value : magnitude ≡ min (digits_value 10 (take len bytes)) (2 ^ 64 - 1)

-- one more digit
pub digit_more : (bytes : List ℕ) (len magnitude next : ℕ) → AreDigits bytes len magnitude → len < length bytes
    → IsInRange 48 57 (get_or bytes len 0) → next ≡ min (min (magnitude * 10) (2 ^ 64 - 1) + (get_or bytes len 0 - 48)) (2 ^ 64 - 1)
    → AreDigits bytes (len + 1) next
digit_more bytes len magnitude next so_far inside digit is =
    grind (arith, digit_value_digit (get_or bytes len 0) digit, digits_more, digits_value_more 10 bytes len inside)

-- no byte among digits is a blank
pub digits_no_blank : (bytes : List ℕ) (len : ℕ) → len ≤ length bytes → AllDigits 10 (take len bytes) → (k : ℕ) → k < len → is_blank (get_or bytes k 0) ≡ false
digits_no_blank bytes len within digits k below =
    grind (arith, get_or-take len bytes k 0 below, digit_no_blank, digit_at, length-take-le len bytes within)

-- digits up to a blank or the end are the bytes before the first blank
pub digits_front : (bytes : List ℕ) (len magnitude : ℕ) → AreDigits bytes len magnitude → (len < length bytes → is_blank (get_or bytes len 0) ≡ true)
    → front_word bytes ≡ take len bytes
digits_front bytes len magnitude so_far stop =
    ap (λ n. take n bytes) (position_or_len_is is_blank bytes len 0 so_far.within (digits_no_blank bytes len so_far.within so_far.digits) stop)

-- a byte that is neither a digit nor a blank spoils them
pub spoiled : (bytes : List ℕ) (len magnitude : ℕ) → AreDigits bytes len magnitude → len < length bytes → is_blank (get_or bytes len 0) ≡ false
    → ¬ IsInRange 48 57 (get_or bytes len 0) → ¬ IsNumeral 10 (front_word bytes)
spoiled bytes len magnitude so_far inside word other numeral =
    let n = position_or_len is_blank bytes in
    let most = prefix_len-le-length (λ b. not (is_blank b)) bytes in
    elim (cases_lt len n) [
      | inl below ↦
          let digit = digit_at (front_word bytes) len numeral.1 (omega (arith, length-front_word bytes)) in
          other (subst (IsInRange 48 57) (get_or-take n bytes len 0 below) digit)
      | inr stopped ↦
          let blank = passes_at_first is_blank bytes 0 (omega arith) in
          elim (cases_order n len) [
            | inl same ↦ true≢false (sym blank ∙ ap (λ k. is_blank (get_or bytes k 0)) same ∙ word)
            | inr (inl before) ↦ true≢false (sym blank ∙ digits_no_blank bytes len so_far.within so_far.digits n before)
            | inr (inr after) ↦ omega arith
          ]
    ]

-- What a sign does: the digits come after it.
pub record IsSigned (bytes : List ℕ) (sign : ℕ) : Type 0 where
  pub digits : without_leading_sign (front_word bytes) ≡ front_word (drop sign bytes)
  pub len : length (front_word bytes) ≡ sign + length (front_word (drop sign bytes))
  pub minus : starts_with_minus (front_word bytes) ≡ starts_with_minus bytes

-- a byte that is no blank belongs to the first word
front_word-cons : (b : ℕ) (bytes : List ℕ) → is_blank b ≡ false → front_word (b ∷ bytes) ≡ b ∷ front_word bytes
front_word-cons b bytes word = rw (word, one-add) refl

-- a blank doesn't
front_word-blank : (b : ℕ) (bytes : List ℕ) → is_blank b ≡ true → front_word (b ∷ bytes) ≡ []
front_word-blank b bytes blank = rw blank refl

-- how many signs stand first
abbrev pub sign_of : List ℕ → ℕ
sign_of bytes = cond (starts_with_minus bytes) 1 (cond (slice_index bytes 0 == 43) 1 0)

signed_plus : (bytes : List ℕ) → IsSigned (43 ∷ bytes) 1
signed_plus bytes = grind (arith, front_word-cons 43 bytes refl)

signed_none : (b : ℕ) (bytes : List ℕ) → (b == 45) ≡ false → (b == 43) ≡ false → IsSigned (b ∷ bytes) 0
signed_none b bytes no_minus no_plus = grind (arith, cases_Bool (is_blank b), front_word-blank, front_word-cons)

-- the sign belongs to the first word, and its digits come after it
pub signed_front : (bytes : List ℕ) → IsSigned bytes (sign_of bytes)
signed_front [] = record { digits = refl; len = refl; minus = refl }
signed_front (b ∷ bytes) = elim (cases_Bool (b == 45)) [
  | inl minus ↦ rw minus (subst (λ c. IsSigned (c ∷ bytes) 1) (sym (eqb-true b 45 minus)) (grind (arith, front_word-cons 45 bytes refl)))
  | inr no_minus ↦ elim (cases_Bool (b == 43)) [
    | inl plus ↦ rw (no_minus, plus) (subst (λ c. IsSigned (c ∷ bytes) 1) (sym (eqb-true b 43 plus)) (signed_plus bytes))
    | inr no_plus ↦ rw (no_minus, no_plus) (signed_none b bytes no_minus no_plus)
  ]
]

-- a number with its sign
abbrev pub with_sign : Bool → ℕ → ℤ
with_sign negative n = cond negative (neg_ℤ (pos n)) (pos n)

-- a number of 64 bits is at most 2^63 without its sign
with_sign-le : (negative : Bool) (n : ℕ) → FitsSigned w64 (with_sign negative n) → n ≤ 2 ^ 63
with_sign-le true zero fits = omega arith
with_sign-le true (suc n) fits = let small = fits.sfits in omega arith
with_sign-le false n fits = let small = fits.sfits in omega arith

-- the number of the first word
number_of_front : (bytes : List ℕ) → number_of (front_word bytes) ≡ with_sign (starts_with_minus bytes) (digits_value 10 (front_word (drop (sign_of bytes) bytes)))
number_of_front bytes =
    let sign = signed_front bytes in
    ap (λ ds. with_sign (starts_with_minus (front_word bytes)) (digits_value 10 ds)) sign.digits
    ∙ ap (λ negative. with_sign negative (digits_value 10 (front_word (drop (sign_of bytes) bytes)))) sign.minus

-- What is known of the digits after the sign.
pub record HasMagnitude (bytes : List ℕ) (magnitude : ℕ) : Type 0 where
  pub digits : IsNumeral 10 (front_word (drop (sign_of bytes) bytes))
  pub value : magnitude ≡ min (digits_value 10 (front_word (drop (sign_of bytes) bytes))) (2 ^ 64 - 1)

-- they and the sign spell a number
pub spells_number : (bytes : List ℕ) (magnitude : ℕ) → HasMagnitude bytes magnitude → IsNumberWord (front_word bytes)
spells_number bytes magnitude has = subst (IsNumeral 10) (sym (signed_front bytes).digits) has.digits

-- which is this one where it has 64 bits
pub number_is : (bytes : List ℕ) (magnitude : ℕ) → HasMagnitude bytes magnitude → FitsSigned w64 (with_sign (starts_with_minus bytes) magnitude)
    → with_sign (starts_with_minus bytes) magnitude ≡ number_of (front_word bytes)
number_is bytes magnitude has fits =
    grind (arith, with_sign-le (starts_with_minus bytes) magnitude fits, with_sign (starts_with_minus bytes), number_of_front bytes)

pub number_found : (bytes : List ℕ) (magnitude : ℕ) → HasMagnitude bytes magnitude → FitsSigned w64 (with_sign (starts_with_minus bytes) magnitude)
    → IsNumber (front_word bytes)
number_found bytes magnitude has fits =
    grind (arith, spells_number bytes magnitude has, number_is bytes magnitude has fits)

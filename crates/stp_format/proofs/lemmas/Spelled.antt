-- What std's `parse` gives is the number that a word spells.
use Rattle.std.specs.Prelude.{ℕ, zero, suc, ℤ, pos, negsuc, neg_ℤ, ◌<◌, ◌≤◌, ◌^◌, ◌≡◌, ◌≢◌, ◌==◌, ◌&&◌, true, false, not, nat_lt, List, [], ◌∷◌, length, Some, None, Result, Ok, Err, option_and_then, FitsSigned}
use Rattle.std.specs.Bool.{Decides}
use Rattle.std.specs.Int.{w64}
use Rattle.std.specs.Result.{result_ok}
use Rattle.std.specs.Str.{all_ascii_digits, IsAscii, IsUtf8}
use Rattle.std.specs.Str.Parse.{IsNumeral, digits_value, starts_with_minus, without_leading_plus, without_leading_sign, signed_digits_value, ParsesSigned}
use Rattle.std.proofs.Common.{arith, refl, sym, ap, ◌∙◌, inl, inr}
use Rattle.std.proofs.lemmas.Bool.{cases_Bool, cases_lt, le-ltb, eqb-true, ne_eqb}
use Rattle.std.proofs.lemmas.Bool.Decides.{Decides-ltb, Decides-and, Decides-not, Decides-eqb, Decides-like}
use Rattle.std.proofs.lemmas.List.{get_or_past}
use Rattle.std.proofs.lemmas.Str.{IsUtf8-from_ascii}
use Rattle.std.proofs.lemmas.Str.Ascii.{IsAscii-nil, IsAscii-cons}
use Rattle.std.proofs.lemmas.Str.Parse.{digit_at}
use Rattle.stp_format.specs.LineLaws.{digits_model}
use Rattle.stp_format.specs.Numbers.{spelled_number, coordinate_of, weight_of}

numeral_decides : (ds : List ℕ) → Decides (not (length ds == 0) && all_ascii_digits ds) (IsNumeral 10 ds)
numeral_decides ds =
    let both = Decides-and _ _ (Decides-not _ (Decides-eqb (length ds) 0)) (λ h. h, λ h. h) in
    Decides-like (not (length ds == 0) && all_ascii_digits ds) (λ h. (omega (arith, h.0), digits_model.to ds h.1)) (λ h. (λ none. omega (arith, h.0, none), digits_model.from ds h.1)) both

-- the number of 64 bits with a sign
pub coordinate_some : (z : ℤ) → FitsSigned w64 z → coordinate_of z ≡ Some z
coordinate_some (pos n) fits = let small = fits.sfits in let is : nat_lt n (2 ^ 63) ≡ true = (Decides-ltb n (2 ^ 63)).1 (omega arith) in rw is refl
coordinate_some (negsuc n) fits = let small = fits.sfits in let is : nat_lt n (2 ^ 63) ≡ true = (Decides-ltb n (2 ^ 63)).1 (omega arith) in rw is refl

pub coordinate_none : (z : ℤ) → ¬ FitsSigned w64 z → coordinate_of z ≡ None
coordinate_none (pos n) large = grind (arith, cases_lt n (2 ^ 63), le-ltb)
coordinate_none (negsuc n) large = grind (arith, cases_lt n (2 ^ 63), le-ltb)

-- what `parse` gives at 64 bits with a sign
pub signed_parsed : {E : Type 0} (word : List ℕ) (r : Result ℤ E) → ParsesSigned w64 10 word r → result_ok r ≡ option_and_then coordinate_of (spelled_number word)
signed_parsed word (Ok x) h =
    let is : (not (length (without_leading_sign word) == 0) && all_ascii_digits (without_leading_sign word)) ≡ true = (numeral_decides (without_leading_sign word)).1 h.0.0 in
    ap Some h.1 ∙ rw is (sym (coordinate_some (signed_digits_value 10 word) h.0.1))
signed_parsed word (Err e) h =
    elim (cases_Bool (not (length (without_leading_sign word) == 0) && all_ascii_digits (without_leading_sign word))) [
      | inl is ↦ rw is (sym (coordinate_none (signed_digits_value 10 word) (λ fits. h ((numeral_decides (without_leading_sign word)).0 is, fits))))
      | inr none ↦ rw none refl
    ]

signed_ascii : (word : List ℕ) → IsNumeral 10 (without_leading_sign word) → IsAscii word
signed_ascii [] numeral = IsAscii-nil
signed_ascii (b ∷ word) numeral =
    grind (arith, cases_Bool (b == 45), b == 45, IsAscii-cons, eqb-true, cases_lt, digit_at, get_or_past, cases_Bool (b == 43), b == 43)

pub no_text_no_number : (word : List ℕ) → ¬ IsUtf8 word → spelled_number word ≡ None
no_text_no_number word other =
    grind (arith, cases_Bool (not (length (without_leading_sign word) == 0) && all_ascii_digits (without_leading_sign word)), IsUtf8-from_ascii, signed_ascii, numeral_decides (without_leading_sign word))

-- a numeral has no minus before it
numeral_no_minus : (word : List ℕ) → IsNumeral 10 (without_leading_plus word) → starts_with_minus word ≡ false
numeral_no_minus [] numeral = refl
numeral_no_minus (b ∷ word) numeral = grind (arith, cases_Bool (b == 45), b == 45, b == 43, ne_eqb, eqb-true, digit_at)

-- what is spelled without a minus
spelled_plain : (word : List ℕ) → starts_with_minus word ≡ false → IsNumeral 10 (without_leading_plus word)
    → spelled_number word ≡ Some (pos (digits_value 10 (without_leading_plus word)))
spelled_plain word plain numeral = grind (arith, numeral_decides (without_leading_sign word))

weight_some : (n : ℕ) → n < 2 ^ 64 → weight_of (pos n) ≡ Some n
weight_some n small = let is : nat_lt n (2 ^ 64) ≡ true = (Decides-ltb n (2 ^ 64)).1 small in rw is refl

weight_large : (n : ℕ) → 2 ^ 64 ≤ n → weight_of (pos n) ≡ None
weight_large n big = let is : nat_lt n (2 ^ 64) ≡ false = le-ltb n (2 ^ 64) big in rw is refl

-- what `parse` gives at 64 bits without a sign
pub unsigned_parsed : (word : List ℕ) (n : ℕ) → IsNumeral 10 (without_leading_plus word) × (digits_value 10 (without_leading_plus word) < 2 ^ 64)
    → n ≡ digits_value 10 (without_leading_plus word) → Some n ≡ option_and_then weight_of (spelled_number word)
unsigned_parsed word n fits is =
    ap Some is ∙ sym (ap (option_and_then weight_of) (spelled_plain word (numeral_no_minus word fits.0) fits.0) ∙ weight_some (digits_value 10 (without_leading_plus word)) fits.1)

-- a negative number is none without a sign
negative_none : (n : ℕ) → option_and_then coordinate_of (Some (neg_ℤ (pos n))) ≢ Some (pos 0) → weight_of (neg_ℤ (pos n)) ≡ None
negative_none zero other = absurd (other refl)
negative_none (suc n) other = refl

-- and nothing else is one that `parse` refuses
pub other_spelled : (word : List ℕ) → ¬ (IsNumeral 10 (without_leading_plus word) × (digits_value 10 (without_leading_plus word) < 2 ^ 64))
    → option_and_then coordinate_of (spelled_number word) ≢ Some (pos 0) → option_and_then weight_of (spelled_number word) ≡ None
other_spelled word refused other =
    grind (
      arith,
      cases_Bool (not (length (without_leading_sign word) == 0) && all_ascii_digits (without_leading_sign word)),
      cases_Bool (starts_with_minus word),
      numeral_decides (without_leading_sign word),
      spelled_plain,
      cases_lt (digits_value 10 (without_leading_plus word)) (2 ^ 64),
      weight_large,
      negative_none,
    )

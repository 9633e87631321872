-- Words and lines of a text that was written, as an STP file is read.
use Rattle.std.specs.Prelude.{ℕ, ◌≡◌, ◌<◌, ◌^◌, ◌==◌, ◌&&◌, ℤ, pos, true, false, not}
use Rattle.std.specs.Prelude.{List, [], ◌∷◌, ◌++◌, length, get_or, All}
use Rattle.std.specs.Prelude.{Option, Some, Ok, option_and_then}
use Rattle.std.specs.Fmt.{decimal}
use Rattle.std.specs.Str.{all_ascii_digits}
use Rattle.std.specs.Str.Parse.{IsNumeral, digits_value, without_leading_sign, signed_digits_value}
use Rattle.std.proofs.Common.{arith, refl, ap, ◌∙◌}
use Rattle.std.proofs.lemmas.Bool.{ne_eqb}
use Rattle.std.proofs.lemmas.Bool.Decides.{Decides-ltb}
use Rattle.std.proofs.lemmas.Fmt.{decimal_is_IsNumeral, decimal_nonempty}
use Rattle.std.proofs.lemmas.List.Elements.{All-from_get_or}
use Rattle.std.proofs.lemmas.List.Splits.{slice_split_at, slice_split_none, length-slice_split}
use Rattle.std.proofs.lemmas.Str.Parse.{digit_at, digit_from_value}
use Rattle.stp_format.specs.LineLaws.{ended_lines-cons, digits_model}
use Rattle.stp_format.specs.Lines.{is_gap, words_of, without_return, lines_of}
use Rattle.stp_format.specs.Numbers.{spelled_number, natural_below, number_in, or_fault, word_fault}

-- ---- words

-- some bytes, all above the blank
pub record IsPlain (word : List ℕ) : Type 0 where
  pub some : 0 < length word
  pub above : All (λ b. 32 < b) word

-- such a byte parts no words
no_gap : (b : ℕ) → 32 < b → is_gap b ≡ false
no_gap b above = grind (arith, b == 32, ne_eqb, b == 9)

no_gaps : (word : List ℕ) → All (λ b. 32 < b) word → All (λ b. is_gap b ≡ false) word
no_gaps word above k d inside = no_gap (get_or word k d) (above k d inside)

-- the test of a word that is not empty
not_empty : (word : List ℕ) → 0 < length word → not (length word == 0) ≡ true
not_empty word some = ap not (ne_eqb (length word) 0 (λ e. omega arith))

-- a word before a blank and others
pub words_of-before : (word rest : List ℕ) → IsPlain word → words_of (word ++ 32 ∷ rest) ≡ word ∷ words_of rest
words_of-before word rest plain = grind (arith, slice_split_at, no_gaps, not_empty)

-- the last word
pub words_of-last : (word : List ℕ) → IsPlain word → words_of word ≡ word ∷ []
words_of-last word plain = grind (arith, slice_split_none, no_gaps, not_empty)

-- a spelled number is a word
pub decimal_plain : (n : ℕ) → n < 2 ^ 64 → IsPlain (decimal n)
decimal_plain n fits = record {
  some = decimal_nonempty n fits;
  above = All-from_get_or (λ b. 32 < b) (decimal n) 0
      (λ k inside. let digit = digit_at (decimal n) k ((decimal_is_IsNumeral n fits).0.1) inside in omega arith);
}

-- ---- lines

-- all bytes are above the line feed and the carriage return
abbrev pub IsOneLine : List ℕ → Type 0
IsOneLine line = All (λ b. 13 < b) line

-- a plain word is part of a line
pub line_of_word : (word : List ℕ) → IsPlain word → IsOneLine word
line_of_word word plain k d inside = let above = plain.above k d inside in omega arith

-- it has no carriage return at its end
without_return-line : (line : List ℕ) → IsOneLine line → without_return line ≡ line
without_return-line [] is = refl
without_return-line (b ∷ line) is = grind (arith, ne_eqb)

no_feeds : (line : List ℕ) → IsOneLine line → All (λ b. (b == 10) ≡ false) line
no_feeds line is k d inside = let above = is k d inside in ne_eqb (get_or line k d) 10 (λ e. omega arith)

-- the first line of a text
pub lines_of-line : (line rest : List ℕ) → IsOneLine line → lines_of (line ++ 10 ∷ rest) ≡ line ∷ lines_of rest
lines_of-line line rest is =
    grind (arith, slice_split_at, no_feeds line is, ended_lines-cons, length-slice_split, without_return-line line is)

-- ---- numbers

numeral_told : (ds : List ℕ) → IsNumeral 10 ds → (not (length ds == 0) && all_ascii_digits ds) ≡ true
numeral_told ds numeral = rw (not_empty ds (omega (arith, numeral.0)), digits_model.from ds numeral.1) refl

-- digits have no sign
record HasNoSign (ds : List ℕ) : Type 0 where
  bare : without_leading_sign ds ≡ ds
  value : signed_digits_value 10 ds ≡ pos (digits_value 10 ds)

digits_have_no_sign : (ds : List ℕ) → IsNumeral 10 ds → HasNoSign ds
digits_have_no_sign [] numeral = absurd (omega (arith, numeral.0))
digits_have_no_sign (d ∷ ds) numeral = grind (arith, digit_from_value d numeral.1.0, ne_eqb)

-- digits spell their number
spelled_digits : (ds : List ℕ) → IsNumeral 10 ds → spelled_number ds ≡ Some (pos (digits_value 10 ds))
spelled_digits ds numeral = grind (arith, digits_have_no_sign ds numeral, numeral_told ds numeral)

-- a spelled number spells that number
spelled_decimal : (n : ℕ) → n < 2 ^ 64 → spelled_number (decimal n) ≡ Some (pos n)
spelled_decimal n fits =
    let is = decimal_is_IsNumeral n fits in spelled_digits (decimal n) is.0 ∙ ap (λ m. Some (pos m)) is.1

-- the number that a word comes to
number_by : (kind : ℤ → Option ℕ) (line : ℕ) (word : List ℕ) (n : ℕ)
    → option_and_then kind (spelled_number word) ≡ Some n → number_in kind line word ≡ Ok n
number_by kind line word n is = ap (or_fault (word_fault line word)) is

-- .. which is the one that is due, where it is below the limit
pub number_in-decimal : (limit line n : ℕ) → n < limit → n < 2 ^ 64
    → number_in (natural_below limit) line (decimal n) ≡ Ok n
number_in-decimal limit line n low fits = grind (arith, Decides-ltb n limit, number_by, spelled_decimal n fits)

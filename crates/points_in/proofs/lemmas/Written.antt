-- The written text of points is read back.
use Rattle.std.specs.Prelude.{ℕ, suc, ℤ, pos, negsuc, neg_ℤ, ◌+◌, ◌<◌, ◌≤◌, ◌≡◌, true, false, List, [], ◌∷◌, ◌++◌, length, All, FitsSigned}
use Rattle.std.specs.Int.{w64}
use Rattle.std.specs.Fmt.{decimal, signed_decimal}
use Rattle.std.specs.List.{AllByRecursion}
use Rattle.std.specs.Str.Parse.{IsNumeral, AllDigits, digits_value, without_leading_sign}
use Rattle.std.proofs.Common.{arith, refl, sym, ap, subst, ◌∙◌}
use Rattle.std.proofs.lemmas.Bool.{ne_eqb}
use Rattle.std.proofs.lemmas.Fmt.{decimal_is_IsNumeral, decimal_nonempty}
use Rattle.std.proofs.lemmas.List.{append_assoc}
use Rattle.std.proofs.lemmas.List.Elements.{All-from_get_or, All-cons}
use Rattle.std.proofs.lemmas.List.Splits.{slice_split_at}
use Rattle.std.proofs.lemmas.Str.Parse.{digit_from_value, digit_at}
use Rattle.points_in.specs.declared.point.Point.{Point}
use Rattle.points_in.specs.Number.{IsNumber, number_of}
use Rattle.points_in.specs.PointLaws.{same_coordinates}
use Rattle.points_in.specs.Terminals.{terminals_of}
use Rattle.points_in.specs.Text.{IsPoint, AreNumbers, points_of, IsPointText, points_text}
use Rattle.points_in.specs.Words.{Word, is_blank, words_from}
use Rattle.points_in.proofs.lemmas.Numbers.{digit_no_blank}
use Rattle.points_in.proofs.lemmas.Words.{words_from-nil, words_from-part}

-- no blank stands among digits
digits_lack_blanks : (ds : List ℕ) → AllDigits 10 ds → All (λ b. is_blank b ≡ false) ds
digits_lack_blanks ds digits = All-from_get_or (λ b. is_blank b ≡ false) ds 0 (λ i inside. digit_no_blank _ (digit_at ds i digits inside))

-- digits have no sign
record HasNoSign (ds : List ℕ) : Type 0 where
  bare : without_leading_sign ds ≡ ds
  value : number_of ds ≡ pos (digits_value 10 ds)

digits_have_no_sign : (ds : List ℕ) → IsNumeral 10 ds → HasNoSign ds
digits_have_no_sign [] numeral = absurd (omega (arith, numeral.0))
digits_have_no_sign (d ∷ ds) numeral = grind (arith, digit_from_value d numeral.1.0, ne_eqb)

-- a signed number's spelling is a word
written_lacks_blanks : (z : ℤ) → FitsSigned w64 z → All (λ b. is_blank b ≡ false) (signed_decimal z)
written_lacks_blanks (pos n) fits = digits_lack_blanks (decimal n) (decimal_is_IsNumeral n (let small = fits.sfits in omega arith)).0.1
written_lacks_blanks (negsuc n) fits = grind (arith, All-cons, digits_lack_blanks, decimal_is_IsNumeral)

written_some : (z : ℤ) → FitsSigned w64 z → 0 < length (signed_decimal z)
written_some (pos n) fits = decimal_nonempty n (let small = fits.sfits in omega arith)
written_some (negsuc n) fits = omega arith

-- which is that number
written_number : (z : ℤ) → FitsSigned w64 z → IsNumeral 10 (without_leading_sign (signed_decimal z)) × (number_of (signed_decimal z) ≡ z)
written_number (pos n) fits = grind (arith, decimal_is_IsNumeral, digits_have_no_sign)
written_number (negsuc n) fits =
    let is = decimal_is_IsNumeral (suc n) (let small = fits.sfits in omega arith) in
    (is.0, ap (λ m. neg_ℤ (pos m)) is.1)

pub written_is_number : (z : ℤ) → FitsSigned w64 z → IsNumber (signed_decimal z)
written_is_number z fits = grind (arith, written_number z fits)

-- a word before a blank
word_before : (at : ℕ) (z : ℤ) (blank : ℕ) (rest : List ℕ) → FitsSigned w64 z → is_blank blank ≡ true
    → words_from at (signed_decimal z ++ blank ∷ rest) ≡ record { at = at; bytes = signed_decimal z } ∷ words_from (at + length (signed_decimal z) + 1) rest
word_before at z blank rest fits is =
    grind (arith, words_from-part, slice_split_at is_blank (signed_decimal z) blank rest (written_lacks_blanks z fits) is, written_some z fits)

-- The words of written points are their coordinates in turn.
pub record AreWritten (words : List Word) (ps : List Point) : Type 0 where
  pub numbers : AreNumbers words
  pub points : points_of words ≡ ps
  pub even : length words ≡ length ps + length ps

written_words : (at : ℕ) (ps : List Point) → AllByRecursion IsPoint ps → AreWritten (words_from at (points_text ps)) ps
written_words at [] fits = subst (λ words. AreWritten words []) (sym (words_from-nil at)) (record { numbers = tt; points = refl; even = refl })
written_words at (p ∷ ps) fits =
    let text : points_text (p ∷ ps) ≡ signed_decimal p.x ++ 32 ∷ (signed_decimal p.y ++ 10 ∷ points_text ps) =
    simp append_assoc in
    let x_end = at + length (signed_decimal p.x) + 1 in
    let y_end = x_end + length (signed_decimal p.y) + 1 in
    let x : Word = record { at = at; bytes = signed_decimal p.x } in
    let y : Word = record { at = x_end; bytes = signed_decimal p.y } in
    let rest = written_words y_end ps fits.1 in
    let words : words_from at (points_text (p ∷ ps)) ≡ x ∷ y ∷ words_from y_end (points_text ps) =
    ap (words_from at) text ∙ word_before at p.x 32 (signed_decimal p.y ++ 10 ∷ points_text ps) fits.0.x refl
    ∙ ap (λ ws. x ∷ ws) (word_before x_end p.y 10 (points_text ps) fits.0.y refl) in
    subst (λ ws. AreWritten ws (p ∷ ps)) (sym words) (record {
      numbers = (written_is_number p.x fits.0.x, (written_is_number p.y fits.0.y, rest.numbers));
      points = same_start p (points_of (words_from y_end (points_text ps))) ps fits.0 rest.points;
      even = omega (arith, rest.even);
    })
  where
    same_start : (p : Point) (qs ps : List Point) → IsPoint p → qs ≡ ps
        → (record { x = number_of (signed_decimal p.x); y = number_of (signed_decimal p.y) } ∷ qs) ≡ p ∷ ps
    same_start p qs ps fits same =
        ap (λ q. q ∷ qs) (same_coordinates (record { x = number_of (signed_decimal p.x); y = number_of (signed_decimal p.y) }) p (written_number p.x fits.x).1 (written_number p.y fits.y).1)
        ∙ ap (λ rs. p ∷ rs) same

-- so that they are listed
pub written_lists : (ps : List Point) → AllByRecursion IsPoint ps → 0 < length ps → length (terminals_of ps) ≤ 50 → IsPointText (points_text ps) ps
written_lists ps fits some few = grind (arith, written_words 0 ps fits)

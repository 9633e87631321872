-- A word that spells a number is ASCII, `parse` reads that number, and the buffer spells it as the word does.
use Rattle.std.proofs.Common.{◌≡◌, ◌∙◌, ℤ, List, ℕ, Result, Ok, FitsSigned, to_z, of_z, sym, ap, arith}
use Rattle.std.proofs.lemmas.Int.{to_z-of_z}
use Rattle.std.specs.Fmt.{signed_decimal}
use Rattle.std.specs.Int.{w64}
use Rattle.std.proofs.lemmas.Str.{IsUtf8-from_ascii}
use Rattle.std.proofs.lemmas.Fmt.{IsAscii-signed, parse-signed_decimal}
use Rattle.std.proofs.lemmas.Slice.Eq.{slice_eq-Decides}
use Rattle.text_in.proofs.number.signed_spelled.Goals as goal

-- what was read is spelled as the word is; the buffer takes the number by its bits
same_spelling : {E : Type 0} (r : Result ℤ E) (z read : ℤ) (word text : List ℕ) → FitsSigned w64 z → r ≡ Ok z → r ≡ Ok read
    → word ≡ signed_decimal z → text ≡ signed_decimal (to_z w64 (of_z w64 read)) → text ≡ word
same_spelling r z read word text fits p q e f =
    let one : read ≡ z = cc in
    f ∙ ap (λ y. signed_decimal (to_z w64 (of_z w64 y))) one ∙ ap signed_decimal (to_z-of_z w64 z fits) ∙ sym e

pub returns-in_default-clause-none : goal.returns-in_default-clause-none
returns-in_default-clause-none c =
    λ z fits e. c.in_default.ensures.cases.0 (rw e (IsUtf8-from_ascii _ (IsAscii-signed z fits.sfits)))

pub returns-in_default-parse-clause-none : goal.returns-in_default-parse-clause-none
returns-in_default-parse-clause-none c =
    grind (arith, parse-signed_decimal, c.in-Ok.ensures.cases.0, c.parse.ensures.value.0)

pub returns-else-eq-clause-none : goal.returns-else-eq-clause-none
returns-else-eq-clause-none c =
    grind (arith, parse-signed_decimal, same_spelling, slice_eq-Decides, c.in-Ok.ensures.cases.0, c.parse.ensures.value.0, c.in-Ok-parse.is, c.as_bytes.ensures.value, c.format.ensures.text, c.eq.ensures, c.if-eq.false)

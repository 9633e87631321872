-- Digits up to a blank or the end are the first word, and any other byte spoils it.
use Rattle.std.specs.Prelude.{◌≡◌, ◌<◌, length, take, ◌≢◌, slice_index, true, ℕ, List}
use Rattle.std.specs.Str.Parse.{IsNumeral}
use Rattle.std.proofs.Common.{arith, sym, ap, subst}
use Rattle.std.proofs.lemmas.Bool.{true≢false}
use Rattle.std.proofs.lemmas.List.{length-take-le}
use Rattle.points_in.specs.Words.{is_blank, front_word}
use Rattle.points_in.proofs.lemmas.Numbers.{AreDigits, digit_more, digits_front, spoiled}
use Rattle.points_in.proofs.number.front_digits.Goals as goal
use Rattle.points_in.proofs.number.front_digits.Goals.{else-loop-len-test, then-loop-len-test+then-not-is_digit, else-len-bytes-via-then-len-bytes+else-not-separates, else-len-bytes-via-else-len-bytes}

pub loop-len-preserved : goal.loop-len-preserved
loop-len-preserved c =
    digit_more c.args.bytes.now c.loop-len.len c.loop-len.magnitude c.saturating_add-magnitude.result c.loop-len.invariant (omega arith)
    (c.is_digit.ensures.0 c.if-not-is_digit.false) (cc)

pub returns-then-not-separates-clause-none : goal.returns-then-not-separates-clause-none
returns-then-not-separates-clause-none c =
    grind (arith, else-loop-len-test, then-loop-len-test+then-not-is_digit, spoiled, true≢false)

-- the digits stop at a blank or the end
stops : (bytes : List ℕ) (len magnitude : ℕ) → AreDigits bytes len magnitude → (len < length bytes → is_blank (slice_index bytes len) ≡ true) → len ≢ 0
    → (front_word bytes ≡ take len bytes) × (len ≡ length (front_word bytes)) × IsNumeral 10 (front_word bytes)
stops bytes len magnitude digits stop some =
    let front = digits_front bytes len magnitude digits stop in
    let length_is : len ≡ length (front_word bytes) = omega (arith, ap length front, length-take-le len bytes digits.within) in
    (front, length_is, subst (IsNumeral 10) (sym front) (omega (arith, length-take-le len bytes digits.within), digits.digits))

pub returns-clause-digits : goal.returns-clause-digits
returns-clause-digits c =
    grind (arith, else-len-bytes-via-then-len-bytes+else-not-separates, else-len-bytes-via-else-len-bytes, stops)

pub returns-clause-value : goal.returns-clause-value
returns-clause-value c =
    grind (arith, else-len-bytes-via-then-len-bytes+else-not-separates, else-len-bytes-via-else-len-bytes, stops)

pub returns-clause-len : goal.returns-clause-len
returns-clause-len c =
    grind (arith, else-len-bytes-via-then-len-bytes+else-not-separates, else-len-bytes-via-else-len-bytes, stops)

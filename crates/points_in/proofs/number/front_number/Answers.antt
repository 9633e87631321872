-- A sign and the digits after it are the first word.
use Rattle.std.specs.Prelude.{ℕ, Bool, ◌≡◌, List, min, ◌^◌, ◌-◌, ℤ, length, take, drop}
use Rattle.std.specs.Int.{w64}
use Rattle.std.specs.Str.Parse.{IsNumeral, digits_value, starts_with_minus}
use Rattle.std.proofs.Common.{ap, subst, ◌∙◌, arith}
use Rattle.std.proofs.lemmas.Int.{to_z-of_z}
use Rattle.points_in.specs.Words.{front_word}
use Rattle.points_in.proofs.lemmas.Words.{slice_from}
use Rattle.points_in.proofs.lemmas.Numbers.{HasMagnitude, with_sign, sign_of, number_is, number_found}
use Rattle.points_in.proofs.number.front_number.Goals as goal

-- the digits that were read are those after the sign
digits_after : (bytes : List ℕ) (sign magnitude : ℕ) → sign ≡ sign_of bytes
    → IsNumeral 10 (front_word (take (length bytes - sign) (drop sign bytes)))
    → magnitude ≡ min (digits_value 10 (front_word (take (length bytes - sign) (drop sign bytes)))) (2 ^ 64 - 1)
    → HasMagnitude bytes magnitude
digits_after bytes sign magnitude is digits value = record {
  digits = subst (λ n. IsNumeral 10 (front_word (drop n bytes))) is (rw (slice_from bytes sign) at digits);
  value = subst (λ n. magnitude ≡ min (digits_value 10 (front_word (drop n bytes))) (2 ^ 64 - 1)) is (rw (slice_from bytes sign) at value);
}

-- their sign is the text's
signed_so : (bytes : List ℕ) (negative : Bool) (magnitude : ℕ) (z : ℤ) → negative ≡ starts_with_minus bytes → z ≡ with_sign negative magnitude
    → z ≡ with_sign (starts_with_minus bytes) magnitude
signed_so bytes negative magnitude z is value = value ∙ ap (λ b. with_sign b magnitude) is

pub returns-in-Some-signed-clause-number : goal.returns-in-Some-signed-clause-number
returns-in-Some-signed-clause-number c =
    grind (arith, digits_after c.args.bytes.now c.sign_len-sign.result c.in-Some.digits.magnitude c.sign_len-sign.ensures c.in-Some.ensures.digits c.in-Some.ensures.value, signed_so c.args.bytes.now c.begins_with-negative.result c.in-Some.digits.magnitude c.in-Some-signed.value c.begins_with-negative.ensures c.in-Some-signed.ensures.found, number_found, c.in-Some-signed.ensures.fits)

pub returns-in-Some-signed-clause-value : goal.returns-in-Some-signed-clause-value
returns-in-Some-signed-clause-value c =
    grind (arith, digits_after c.args.bytes.now c.sign_len-sign.result c.in-Some.digits.magnitude c.sign_len-sign.ensures c.in-Some.ensures.digits c.in-Some.ensures.value, signed_so c.args.bytes.now c.begins_with-negative.result c.in-Some.digits.magnitude c.in-Some-signed.value c.begins_with-negative.ensures c.in-Some-signed.ensures.found, to_z-of_z w64 c.in-Some-signed.value c.in-Some-signed.ensures.fits, number_is)

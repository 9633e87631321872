-- Spelled numbers: a number has one spelling, a spelling is a word, and nothing but digits stands in it, or a minus
-- before them.
use Rattle.std.specs.Prelude.{ℕ, suc, ◌≡◌, ◌≢◌, ◌<◌, ◌^◌, ℤ, pos, negsuc, List, ◌∷◌, ◌++◌, length, FitsSigned}
use Rattle.std.specs.Int.{w64}
use Rattle.std.specs.Fmt.{decimal, signed_decimal}
use Rattle.std.proofs.Common.{arith}
use Rattle.std.proofs.lemmas.Fmt.{decimal_is_IsNumeral, decimal_nonempty, signed_decimal_injective}
use Rattle.std.proofs.lemmas.Str.Parse.{digit_at}
use Rattle.std.proofs.lemmas.List.Elements.{All-from_get_or, All-cons}
use Rattle.text_in.specs.Words.{Lacks, IsWord}
use Rattle.text_in.specs.Fronts.{front_unique}

-- the bytes below the digits stand in no unsigned number
pub decimal-lacks : (n byte : ℕ) → n < 2 ^ 64 → byte < 48 → Lacks (decimal n) byte
decimal-lacks n byte fits low = All-from_get_or (λ b. b ≢ byte) (decimal n) 0
    (λ i inside. let digit = digit_at (decimal n) i ((decimal_is_IsNumeral n fits).0.1) inside in omega arith)

-- nor do the bytes below the minus stand in a signed one
pub signed_decimal-lacks : (z : ℤ) (byte : ℕ) → FitsSigned w64 z → byte < 45 → Lacks (signed_decimal z) byte
signed_decimal-lacks (pos n) byte fits low = decimal-lacks n byte (let below = fits.sfits in omega arith) (omega arith)
signed_decimal-lacks (negsuc n) byte fits low =
    All-cons (λ b. b ≢ byte) 45 (decimal (suc n)) (omega arith)
    (decimal-lacks (suc n) byte (let below = fits.sfits in omega arith) (omega arith))

-- a spelled unsigned number is a word
pub decimal_is_word : (n : ℕ) → n < 2 ^ 64 → IsWord (decimal n)
decimal_is_word n fits = record {
  some = decimal_nonempty n fits;
  no_blank = decimal-lacks n 32 fits (omega arith);
  no_line_feed = decimal-lacks n 10 fits (omega arith);
}

-- a spelled signed number has a byte
pub signed_decimal_nonempty : (z : ℤ) → FitsSigned w64 z → 0 < length (signed_decimal z)
signed_decimal_nonempty (pos n) fits = decimal_nonempty n (let below = fits.sfits in omega arith)
signed_decimal_nonempty (negsuc n) fits = omega arith

-- and is a word
pub signed_decimal_is_word : (z : ℤ) → FitsSigned w64 z → IsWord (signed_decimal z)
signed_decimal_is_word z fits = record {
  some = signed_decimal_nonempty z fits;
  no_blank = signed_decimal-lacks z 32 fits (omega arith);
  no_line_feed = signed_decimal-lacks z 10 fits (omega arith);
}

-- two signed numbers with one spelling are the same
pub signed_decimal_one : (y z : ℤ) → FitsSigned w64 y → FitsSigned w64 z → signed_decimal y ≡ signed_decimal z → y ≡ z
signed_decimal_one y z p q e = signed_decimal_injective y z p.sfits q.sfits e

-- so are a signed number and what follows
pub signed_front_unique : (separator : ℕ) (a b : ℤ) (x y : List ℕ) → separator < 45 → FitsSigned w64 a →
    FitsSigned w64 b
    → signed_decimal a ++ separator ∷ x ≡ signed_decimal b ++ separator ∷ y → (a ≡ b) × (x ≡ y)
signed_front_unique separator a b x y low p q e =
    let same =
    front_unique separator (signed_decimal a) (signed_decimal b) x y (signed_decimal-lacks a separator p low)
    (signed_decimal-lacks b separator q low) e in
    (signed_decimal_one a b p q same.0, same.1)

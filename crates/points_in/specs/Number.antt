-- Freely spelled numbers.
use Rattle.std.specs.Prelude.{ℕ, ℤ, List, FitsSigned}
use Rattle.std.specs.Int.{w64}
use Rattle.std.specs.Str.Parse.{IsNumeral, without_leading_sign, signed_digits_value}

-- A plus, a minus or neither, and then one or more digits, of which the first may be zeros.
abbrev pub IsNumberWord : List ℕ → Type 0
IsNumberWord word = IsNumeral 10 (without_leading_sign word)

-- the number that such a word spells
abbrev pub number_of : List ℕ → ℤ
number_of word = signed_digits_value 10 word

-- The word is the number, which has 64 bits.
pub record IsNumber (word : List ℕ) : Type 0 where
  pub spelled : IsNumberWord word
  pub fits : FitsSigned w64 (number_of word)

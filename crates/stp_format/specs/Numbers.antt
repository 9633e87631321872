-- The words that stand in a number's place.
use Rattle.std.specs.Prelude.{ℕ, ℤ, pos, negsuc, ◌==◌, ◌^◌, ◌&&◌, Bool, not, nat_lt, if◌then◌else◌, List, length, Option, Some, None, Result, Ok, Err, option_and_then}
use Rattle.std.specs.List.{list_any}
use Rattle.std.specs.Str.{all_ascii_digits}
use Rattle.std.specs.Str.Parse.{without_leading_sign, signed_digits_value}
use Rattle.stp_format.specs.declared.fault.StpFault.{StpFault}
use Rattle.stp_format.specs.declared.fault.StpFault.TheVariants.{BadLine, LeftOut}

-- The number that a word spells: a plus, a minus or neither, and then one or more digits, of which the first may
-- be zeros.
abbrev pub spelled_number : List ℕ → Option ℤ
spelled_number word =
    let digits = without_leading_sign word in
    if not (length digits == 0) && all_ascii_digits digits then Some (signed_digits_value 10 word) else None

-- the numbers from 0 on that are below a limit
abbrev pub natural_below : ℕ → ℤ → Option ℕ
natural_below limit (pos n) = if nat_lt n limit then Some n else None
natural_below limit (negsuc n) = None

-- those of 32 bits, and of 64 bits
abbrev pub count_of : ℤ → Option ℕ
count_of = natural_below (2 ^ 32)

abbrev pub weight_of : ℤ → Option ℕ
weight_of = natural_below (2 ^ 64)

-- those of 64 bits with a sign
abbrev pub coordinate_of : ℤ → Option ℤ
coordinate_of (pos n) = if nat_lt n (2 ^ 63) then Some (pos n) else None
coordinate_of (negsuc n) = if nat_lt n (2 ^ 63) then Some (negsuc n) else None

-- a word with a point in it spells a real number, which this profile leaves out
abbrev pub holds_point : List ℕ → Bool
holds_point word = list_any (λ byte. byte == 46) word

-- why a word of a line isn't a number that is due
abbrev pub word_fault : ℕ → List ℕ → StpFault
word_fault n word = if holds_point word then LeftOut n else BadLine n

-- the value of an option, or a fault
abbrev pub or_fault : {X : Type 0} → StpFault → Option X → Result X StpFault
or_fault f (Some x) = Ok x
or_fault f None = Err f

-- the number of such a kind that a word of a line spells
abbrev pub number_in : {X : Type 0} → (ℤ → Option X) → ℕ → List ℕ → Result X StpFault
number_in kind n word = or_fault (word_fault n word) (option_and_then kind (spelled_number word))

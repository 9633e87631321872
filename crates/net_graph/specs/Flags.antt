-- A set of numbers below a size is the list of its flags: the flag at n is true where n is in the set.
use Rattle.std.specs.Prelude.{ℕ, zero, suc, ◌≡◌, ◌/◌, ◌%◌, ◌==◌, nat_le, Bool, true, false, List, map, slice_index, slice_index_or}
use Rattle.std.specs.Int.{bit_at}
use Rattle.std.specs.List.{range_with_len}

-- whether the number is in the set
abbrev pub has : List Bool → ℕ → Bool
has set n = slice_index_or set n false

-- each number of the one set is in the other
abbrev pub IsSubset : List Bool → List Bool → Type 0
IsSubset small large = (n : ℕ) → has small n ≡ true → has large n ≡ true

-- whether a number's bit is set where words of 64 bits keep one bit a number
abbrev pub bit_in_words : List ℕ → ℕ → Bool
bit_in_words words n = bit_at (slice_index words (n / 64)) (n % 64) == 1

-- the flags that words of 64 bits keep
abbrev pub flags_in_words : List ℕ → ℕ → List Bool
flags_in_words words size = map (bit_in_words words) (range_with_len 0 size)

-- the flag at a place of the four that a value tells: its bits 8, 4, 2 and 1 stand for the first to the fourth
abbrev pub flag_of_four : ℕ → ℕ → Bool
flag_of_four value zero = nat_le 8 value
flag_of_four value (suc zero) = nat_le 4 (value % 8)
flag_of_four value (suc (suc zero)) = nat_le 2 (value % 4)
flag_of_four value (suc (suc (suc place))) = nat_le 1 (value % 2)

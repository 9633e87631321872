-- The values of arguments, read from the rows that `clap` matches.
use Rattle.std.specs.Prelude.{ℕ, ◌^◌, ◌&&◌, Bool, true, false, List, Option, Some, None, codes, if◌then◌else◌, nat_lt}
use Rattle.std.specs.Prelude.{option_and_then}
use Rattle.std.specs.Str.{bytes_eq}
use Rattle.std.specs.Str.Parse.{digits_value, without_leading_plus}
use Rattle.clap.specs.ValueTests.{is_numeral}
use Rattle.clap.specs.Words.{Row, Text, one_of}
use Rattle.search_rules.specs.Names.{ascent_named, split_named}
use Rattle.search_rules.specs.declared.rules.AscentRule.{AscentRule}
use Rattle.search_rules.specs.declared.rules.SplitRule.{SplitRule}

-- the number that the text spells in decimal digits, where it is below 2 ^ bits; a plus may stand before them
abbrev pub number_of : ℕ → Text → Option ℕ
number_of bits text = let digits = without_leading_plus text in
    if is_numeral digits && nat_lt (digits_value 10 digits) (2 ^ bits) then Some (digits_value 10 digits) else None

abbrev pub truth_of : Text → Option Bool
truth_of text = if bytes_eq text (codes "true") then Some true
    else (if bytes_eq text (codes "false") then Some false else None)

-- what the argument `id` has for a value
abbrev pub number_in : ℕ → Text → List Row → Option ℕ
number_in bits id rows = option_and_then (number_of bits) (one_of id rows)

abbrev pub truth_in : Text → List Row → Option Bool
truth_in id rows = option_and_then truth_of (one_of id rows)

abbrev pub ascent_in : List Row → Option AscentRule
ascent_in rows = option_and_then ascent_named (one_of (codes "ascent") rows)

abbrev pub split_in : List Row → Option SplitRule
split_in rows = option_and_then split_named (one_of (codes "split") rows)

-- Lines, and the digits in them.
use Rattle.std.specs.Prelude.{ℕ, ◌≡◌, ◌<◌, true, List, [], ◌∷◌, length}
use Rattle.std.specs.Str.{all_ascii_digits}
use Rattle.std.specs.Str.Parse.{digits_value}
use Rattle.std.proofs.Common.{refl, arith}
use Rattle.std.proofs.lemmas.Str.Parse.{IsNumeralModel, numerals_by_value, tells_all_ascii_digits}
use Rattle.stp_format.specs.Lines.{ended_lines, without_return}

-- one more line in front of others
pub ended_lines-cons : (line : List ℕ) (parts : List (List ℕ)) → 0 < length parts →
    ended_lines (line ∷ parts) ≡ without_return line ∷ ended_lines parts
ended_lines-cons line [] some = absurd (omega (arith, some))
ended_lines-cons line (next ∷ more) some = refl

-- the test of digits
pub digits_model : IsNumeralModel (λ ds. all_ascii_digits ds ≡ true) (digits_value 10)
digits_model = numerals_by_value (λ ds. all_ascii_digits ds ≡ true) tells_all_ascii_digits

-- Lines, cut off at the front of a text.
use Rattle.std.specs.Prelude.{ℕ, ◌==◌, ◌≡◌, false, List, [], ◌∷◌, ◌++◌, length, All}
use Rattle.std.proofs.Common.{arith, refl, ap}
use Rattle.std.proofs.lemmas.Bool.{eqb-true, false_from_ne_true}
use Rattle.std.proofs.lemmas.List.Elements.{All-weaker}
use Rattle.std.proofs.lemmas.List.Splits.{slice_split_none, slice_split_at, length-slice_split}
use Rattle.stp_format.specs.LineLaws.{ended_lines-cons}
use Rattle.text_in.specs.Words.{IsLine}
use Rattle.stp_format.specs.Lines.{lines_of, ended_lines, without_return}

-- no byte is a line feed, as the test tells
other_bytes : (line : List ℕ) → IsLine line → All (λ b. (b == 10) ≡ false) line
other_bytes line lacks = grind (arith, All-weaker, false_from_ne_true, eqb-true)

-- the first line, and those behind its line feed
pub lines_of-at : (line left : List ℕ) → IsLine line → lines_of (line ++ 10 ∷ left) ≡ without_return line ∷ lines_of left
lines_of-at line left lacks =
    grind (arith, slice_split_at, other_bytes line lacks, ended_lines-cons, length-slice_split)

-- bytes without a line feed are the last line
pub lines_of-none : (line : List ℕ) → IsLine line → lines_of line ≡ line ∷ []
lines_of-none line lacks = ap ended_lines (slice_split_none (λ b. b == 10) line (other_bytes line lacks))

-- there are as many lines as line feeds, and one more
pub length-lines_of : (parts : List (List ℕ)) → length (ended_lines parts) ≡ length parts
length-lines_of [] = refl
length-lines_of (last ∷ []) = refl
length-lines_of (line ∷ next ∷ more) = omega (arith, length-lines_of (next ∷ more))

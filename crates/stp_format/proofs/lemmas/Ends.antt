-- How a file begins and ends.
use Rattle.std.specs.Prelude.{ℕ, ◌≡◌, ◌+◌, ◌==◌, true, List, [], ◌∷◌, length, count_by, Result, Ok, Err, IfErr}
use Rattle.std.specs.List.{slice_split}
use Rattle.std.proofs.Common.{arith, refl, sym, ap, subst, ◌∙◌}
use Rattle.std.proofs.lemmas.List.Splits.{length-slice_split}
use Rattle.stp_format.specs.declared.fault.StpFault.{StpFault}
use Rattle.stp_format.specs.Lines.{ToldLine, words_of, lines_of, told_lines}
use Rattle.stp_format.specs.Value.{StpValue}
use Rattle.stp_format.specs.Sections.{no_sections, ◌>>=◌, Reading, outside, ended}
use Rattle.stp_format.specs.Reading.{all_lines, end_of_text, is_magic, value_of_lines, stp_of, IsFaultOf, Gives}
use Rattle.stp_format.specs.Left.{LinesLeft, told, last_number, comes_to}
use Rattle.stp_format.proofs.lemmas.Split.{length-lines_of}

-- what follows the end of a file is passed over
ended_stays : (v : StpValue) (lines : List ToldLine) → all_lines (ended v) lines ≡ Ok (ended v)
ended_stays v [] = refl
ended_stays v (line ∷ lines) = ended_stays v lines

pub file_ends : (r : Result StpValue StpFault) (left : LinesLeft) → ((r >>= λ v. Ok (ended v)) >>= λ q. comes_to q left) ≡ r
file_ends (Ok v) left = ap (λ q. q >>= end_of_text (last_number left)) (ended_stays v (told left))
file_ends (Err f) left = refl

-- the lines behind the first one
pub magic_leads : (bytes first : List ℕ) (left : LinesLeft) → lines_of bytes ≡ first ∷ left.lines → left.taken ≡ 1 → is_magic (words_of first) ≡ true
    → stp_of bytes ≡ comes_to (outside no_sections) left
magic_leads bytes first left lines taken magic =
    let none : Reading = outside no_sections in
    let end : count_by (λ b. b == 10) bytes + 1 ≡ last_number left =
    omega (arith, length-slice_split (λ b. b == 10) bytes, length-lines_of (slice_split (λ b. b == 10) bytes), ap (length {A = List ℕ}) lines, taken) in
    let number : 2 ≡ left.taken + 1 = omega arith in
    ap (value_of_lines (count_by (λ b. b == 10) bytes + 1)) lines
    ∙ rw magic (ap (λ n. all_lines none (told_lines n left.lines) >>= end_of_text (count_by (λ b. b == 10) bytes + 1)) number
    ∙ ap (λ n. all_lines none (told left) >>= end_of_text n) end)

-- a fault, of what is due by another name
pub fault_given : {X Y : Type 0} (view : X → Y) (result : Result X StpFault) (due due' : Result Y StpFault) → due' ≡ due → Gives view result due
    → IfErr result (λ f. IsFaultOf f due')
fault_given view (Ok x) due due' same gives = tt
fault_given view (Err f) due due' same gives = subst (λ d. IsFaultOf f d) (sym same) gives

-- How the lines of an STP file that was written lead from one reading to another.
use Rattle.std.specs.Prelude.{ℕ, ◌≡◌, ◌+◌, ◌<◌, ◌==◌, false, List, [], ◌∷◌, ◌++◌, slice_index, Result, Ok}
use Rattle.std.proofs.Common.{refl, ap, subst, ◌∙◌, append_assoc}
use Rattle.std.proofs.lemmas.List.Elements.{All-nil}
use Rattle.stp_format.specs.declared.fault.StpFault.{StpFault}
use Rattle.stp_format.specs.Lines.{ToldLine, words_of, lines_of, told_line, told_lines}
use Rattle.stp_format.specs.Reading.{next_line, all_lines}
use Rattle.stp_format.specs.Sections.{◌>>=◌, Reading}
use Rattle.obstacle_grid.proofs.lemmas.Words.{IsOneLine, lines_of-line}

-- what a text comes to from a reading on, where its first line has a number
abbrev pub comes : Reading → ℕ → List ℕ → Result Reading StpFault
comes r n text = all_lines r (told_lines n (lines_of text))

-- the text leads from one reading to the other, whatever follows it and whatever number its first line has
abbrev pub LeadsOn : Reading → List ℕ → Reading → Type 0
LeadsOn r text r' = (n : ℕ) (rest : List ℕ) → (m : ℕ) × (comes r n (text ++ rest) ≡ comes r' m rest)

-- no text leads nowhere else
pub leads_nothing : (r : Reading) → LeadsOn r [] r
leads_nothing r n rest = (n, refl)

-- one text after another
pub leads_both : (r r' r'' : Reading) (text text' : List ℕ) → LeadsOn r text r' → LeadsOn r' text' r''
    → LeadsOn r (text ++ text') r''
leads_both r r' r'' text text' first next n rest =
    let (m, one) = first n (text' ++ rest) in
    let (k, two) = next m rest in
    (k, ap (comes r n) (append_assoc text text' rest) ∙ one ∙ two)

-- the same text
pub leads_same : (r r' : Reading) (text text' : List ℕ) → text ≡ text' → LeadsOn r text r' → LeadsOn r text' r'
leads_same r r' text text' same leads = subst (λ t. LeadsOn r t r') same leads

-- an empty line is passed over
pub leads_empty : (r : Reading) → LeadsOn r (10 ∷ []) r
leads_empty r n rest =
    (n + 1, ap (λ lines. all_lines r (told_lines n lines)) (lines_of-line [] rest (All-nil (λ b. 13 < b))))

-- the line of words
told_words : (n : ℕ) (words : List (List ℕ)) (keyword : List ℕ) (operands : List (List ℕ)) (others : List ToldLine)
    → words ≡ keyword ∷ operands → (slice_index keyword 0 == 35) ≡ false
    → told_line n words others ≡ record { number = n; keyword = keyword; operands = operands } ∷ others
told_words n words keyword operands others are other = rw (are, other) refl

-- a line whose words lead from one reading to the other
pub leads_line : (r r' : Reading) (line keyword : List ℕ) (operands : List (List ℕ)) → IsOneLine line
    → words_of line ≡ keyword ∷ operands → (slice_index keyword 0 == 35) ≡ false
    → ((n : ℕ) → next_line r (record { number = n; keyword = keyword; operands = operands }) ≡ Ok r')
    → LeadsOn r (line ++ 10 ∷ []) r'
leads_line r r' line keyword operands is words other next n rest =
    let more = told_lines (n + 1) (lines_of rest) in
    let text = ap lines_of (append_assoc line (10 ∷ []) rest) ∙ lines_of-line line rest is in
    let told = told_words n (words_of line) keyword operands more words other in (
      n + 1,
      ap (λ lines. all_lines r (told_lines n lines)) text ∙ ap (all_lines r) told
          ∙ ap (λ step. step >>= (λ r'. all_lines r' more)) (next n),
    )

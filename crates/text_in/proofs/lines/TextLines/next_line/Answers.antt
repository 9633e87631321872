-- The first line of what is left ends at the first line feed; where there is none, one line is left.
use Rattle.std.specs.Prelude.{ℕ, ◌∷◌, List, length}
use Rattle.std.proofs.Common.{ap, sym, ◌∙◌}
use Rattle.text_in.specs.Lines.{lines_of}
use Rattle.text_in.specs.LineLaws.{lines_of-at, lines_of-none, lines_some}
use Rattle.text_in.proofs.lines.TextLines.next_line.Goals as goal

pub returns-in_err-line-clause-none : goal.returns-in_err-line-clause-none
returns-in_err-line-clause-none c = rw c.from_residual.ensures
    (ap (λ t. length t.lines) (sym c.self.view_is) ∙ ap (length {A = List (List ℕ)}) (lines_of-none _ c.in_err-line.ensures.none))

pub returns-clause-found : goal.returns-clause-found
returns-clause-found c =
    sym (ap (λ t. t.lines) c.self.view_is) ∙ ap lines_of c.in_ok-line.ensures.parts
    ∙ lines_of-at c.in_ok-line.line.now c.in_ok-line.left.now c.in_ok-line.ensures.line
    ∙ ap (λ words. words ∷ lines_of c.in_ok-line.left.now) (sym c.of.ensures)

pub returns-clause-more : goal.returns-clause-more
returns-clause-more c = lines_some c.in_ok-line.left.now

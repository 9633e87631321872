-- The first line of what is left ends at the first line feed; where there is none, it is the last one.
use Rattle.std.specs.Prelude.{◌∷◌}
use Rattle.std.proofs.Common.{ap, sym, ◌∙◌}
use Rattle.stp_format.specs.Lines.{lines_of}
use Rattle.stp_format.specs.Left.{lines_left}
use Rattle.stp_format.proofs.lemmas.Split.{lines_of-at, lines_of-none}
use Rattle.stp_format.proofs.lines.Lines.next_line.Goals as goal

pub returns-in-Some-clause-found : goal.returns-in-Some-clause-found
returns-in-Some-clause-found c =
    sym (ap (λ t. t.lines) c.self.view_is) ∙ ap lines_left c.in_ok-left.was ∙ ap lines_of c.in-Some.ensures.parts
    ∙ lines_of-at c.in-Some.line.now c.in-Some.rest.now c.in-Some.ensures.line
    ∙ ap (λ l. l ∷ lines_of c.in-Some.rest.now) (sym c.before_return.ensures)

pub returns-in-None-clause-found : goal.returns-in-None-clause-found
returns-in-None-clause-found c =
    sym (ap (λ t. t.lines) c.self.view_is) ∙ ap lines_left c.in_ok-left.was ∙ lines_of-none c.in_ok-left.left.now c.in-None.ensures.none

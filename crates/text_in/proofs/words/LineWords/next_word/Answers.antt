-- The first word ends at the first blank; where there is none, it is the last.
use Rattle.std.proofs.Common.{ap, sym, ◌∙◌}
use Rattle.text_in.specs.Lines.{words_of}
use Rattle.text_in.specs.LineLaws.{words_of-at, words_of-none}
use Rattle.text_in.specs.Left.{words_left}
use Rattle.text_in.proofs.words.LineWords.next_word.Goals as goal

pub returns-in_default-clause-found : goal.returns-in_default-clause-found
returns-in_default-clause-found c =
    sym c.self.view_is ∙ ap words_left c.in_ok-line.was ∙ words_of-none c.in_ok-line.line.now c.in_default.ensures.none

pub returns-clause-found : goal.returns-clause-found
returns-clause-found c =
    sym c.self.view_is ∙ ap words_left c.in_ok-line.was ∙ ap words_of c.in-Some.ensures.parts
    ∙ words_of-at c.in-Some.word.now c.in-Some.left.now c.in-Some.ensures.first

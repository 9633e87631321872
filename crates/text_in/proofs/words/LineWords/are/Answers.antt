-- Two lines are the same where their words are; a line has a word.
use Rattle.std.specs.Prelude.{ℕ, ◌≡◌, List, [], length}
use Rattle.std.proofs.Common.{arith, ap, sym, ◌∙◌}
use Rattle.std.proofs.lemmas.Slice.Eq.{slice_eq-Decides}
use Rattle.std.proofs.lemmas.Bool.Decides.{Decides-eqb}
use Rattle.text_in.specs.Lines.{words_of}
use Rattle.text_in.specs.LineLaws.{words_of_one, words_some}
use Rattle.text_in.specs.Left.{words_left}
use Rattle.text_in.proofs.words.LineWords.are.Goals as goal

pub returns-in-Some : goal.returns-in-Some
returns-in-Some c =
    let seen : words_left c.self.inside.left ≡ words_of c.in-Some.left.now = ap words_left c.in-Some.is in
    let decides = slice_eq-Decides Decides-eqb c.in-Some.left.now c.args.line.now c.eq.result c.eq.ensures in (
      λ same. sym c.self.view_is ∙ seen ∙ ap words_of (decides.0 same),
      λ same. decides.1 (words_of_one c.in-Some.left.now c.args.line.now (sym seen ∙ c.self.view_is ∙ same)),
    )

pub returns-in-None : goal.returns-in-None
returns-in-None c =
    let seen : words_left c.self.inside.left ≡ [] = ap words_left c.in-None.is in (
      λ no. cc,
      λ same. absurd (let none : [] ≡ words_of c.args.line.now = sym seen ∙ c.self.view_is ∙ same in
          omega (arith, words_some c.args.line.now, ap (length {A = List ℕ}) none)),
    )

-- What is wrong with the item is wrong with its line.
use Rattle.std.specs.Prelude.{ℕ, suc, List, Result, Ok, Err, IfErr}
use Rattle.std.proofs.Common.{subst}
use Rattle.points_in.specs.declared.point.Point.{Point}
use Rattle.text_in.specs.Lines.{LinesLeft}
use Rattle.section_text.specs.Format.{Format}
use Rattle.section_text.specs.Faults.{FailsItem, items}
use Rattle.section_text.specs.Left.{TakesLine, JudgesLeft}
use Rattle.section_text.proofs.Steps.{line_fails}
use Rattle.section_text.proofs.items.next_item.Goals as goal

wrong_line : {X F V : Type 0} (fm : Format X F V) (ps : List Point) (xs : List X) (before after : LinesLeft) (words : List (List ℕ))
    (r : Result X F) → TakesLine before words after → IfErr r (FailsItem fm ps xs before.number words)
    → IfErr r (λ f. (due : ℕ) → JudgesLeft fm (items ps (suc due) xs) before (Err f))
wrong_line fm ps xs before after words (Ok x) taken fails = tt
wrong_line fm ps xs before after words (Err f) taken fails = λ due. line_fails fm before after words (items ps (suc due) xs) f taken fails

pub returns-clause-err : goal.returns-clause-err
returns-clause-err g c =
    let fm = g.S.SectionFormat.format in
    let ps = g.S.SectionFormat.points_of c.args.basis.now in
    let words = c.in_ok-words.words in
    wrong_line fm ps c.args.items.now c.args.text.now c.whole_line.new.text words c.item.result c.in_ok-words.ensures.taken
    (subst (λ n. IfErr c.item.result (FailsItem fm ps c.args.items.now n words)) c.number-line.ensures c.item.ensures.err)

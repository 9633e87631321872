-- What the lines that are left come to is what the text comes to.
use Rattle.std.specs.Prelude.{ℕ, ◌≡◌, List, Result, Ok, Err, IfErr}
use Rattle.std.proofs.Common.{refl, subst, inr}
use Rattle.std.proofs.lemmas.Result.{err_from_is_err_and}
use Rattle.points_in.specs.declared.point.Point.{Point}
use Rattle.text_in.specs.Lines.{LinesLeft, lines_of}
use Rattle.section_text.specs.Format.{Format}
use Rattle.section_text.specs.Faults.{nothing}
use Rattle.section_text.specs.Judged.{Judges, JudgesWhole, IsOutcome, IsFirstFault}
use Rattle.section_text.specs.Left.{JudgesLeft}
use Rattle.section_text.proofs.read.read_lines.Goals as goal

module _ {X F V : Type 0} (fm : Format X F V) (bytes : List ℕ) where
  begun : (text : LinesLeft) (o : Result V F) → text.lines ≡ lines_of bytes → text.number ≡ 1 → JudgesLeft fm nothing text o → IsOutcome fm bytes o
  begun text o lines number judged =
      subst (λ k. Judges fm nothing k (lines_of bytes) o) number (subst (λ ls. Judges fm nothing text.number ls o) lines judged)

  whole_wrong : (ps : List Point) (xs : List X) (r : Result V F) → ((o : Result V F) → JudgesWhole fm ps xs o → IsOutcome fm bytes o)
      → IfErr r (λ f. (fm.IsMemory f → ⊥) → fm.IsWholeFault ps xs f) → IfErr r (IsFirstFault fm bytes)
  whole_wrong ps xs (Ok v) leads wrong = tt
  whole_wrong ps xs (Err f) leads wrong = λ other. leads (Err f) (inr (f, wrong other, refl))

pub returns-in_err-basis-clause-err : goal.returns-in_err-basis-clause-err
returns-in_err-basis-clause-err g c =
    let p = err_from_is_err_and c.from_residual-in_err-basis.result c.from_residual-in_err-basis.ensures.1 in
    let o = Err c.in_err-basis.field-0.0 in
    rw (p.1, p.2) (λ other. begun g.S.SectionFormat.format c.args.bytes.now c.of-text.result o c.of-text.ensures.lines c.of-text.ensures.number
    (c.in_ok-read_title.ensures.ok o (c.in_ok-count.ensures.ok o (c.in_err-basis.ensures.err other))))

pub returns-in_err-items-clause-err : goal.returns-in_err-items-clause-err
returns-in_err-items-clause-err g c =
    let p = err_from_is_err_and c.from_residual-in_err-items.result c.from_residual-in_err-items.ensures.1 in
    let o = Err c.in_err-items.field-0.0 in
    let ps = g.S.SectionFormat.points_of c.in_ok-basis.basis in
    rw (p.1, p.2) (λ other. begun g.S.SectionFormat.format c.args.bytes.now c.of-text.result o c.of-text.ensures.lines c.of-text.ensures.number
    (c.in_ok-read_title.ensures.ok o (c.in_ok-count.ensures.ok o (c.in_ok-basis.ensures.ok o (c.in_ok-count-2.ensures.ok ps o (c.in_err-items.ensures.err other))))))

pub returns-clause-err : goal.returns-clause-err
returns-clause-err g c =
    let ps = g.S.SectionFormat.points_of c.in_ok-basis.basis in
    let xs = c.in_ok-items.items in
    whole_wrong g.S.SectionFormat.format c.args.bytes.now ps xs c.whole.result
    (λ o judged. begun g.S.SectionFormat.format c.args.bytes.now c.of-text.result o c.of-text.ensures.lines c.of-text.ensures.number
    (c.in_ok-read_title.ensures.ok o (c.in_ok-count.ensures.ok o (c.in_ok-basis.ensures.ok o
    (c.in_ok-count-2.ensures.ok ps o (c.in_ok-items.ensures.ok o (c.in_ok-read_end.ensures.ok ps xs o judged)))))))
    c.whole.ensures.err

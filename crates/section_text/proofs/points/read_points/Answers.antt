-- What each way out of the loop shows of the text.
use Rattle.std.specs.Prelude.{ℕ, zero, suc, ◌+◌, ◌-◌, ◌<◌, ◌≤◌, [], Err}
use Rattle.std.proofs.Common.{arith}
use Rattle.std.proofs.lemmas.Result.{err_from_is_err_and}
use Rattle.text_in.specs.Lines.{LinesLeft}
use Rattle.section_text.specs.Format.{Format}
use Rattle.section_text.specs.Faults.{points}
use Rattle.section_text.specs.Left.{JudgesLeft}
use Rattle.section_text.proofs.points.read_points.Goals as goal

-- the first point is wrong
no_point : {X F V : Type 0} (fm : Format X F V) (count : ℕ) (left : LinesLeft) (f : F) → 0 < count
    → ((due : ℕ) → JudgesLeft fm (points (suc due) []) left (Err f)) → JudgesLeft fm (points count []) left (Err f)
no_point fm zero left f some judged = absurd (omega arith)
no_point fm (suc due) left f some judged = judged due

pub returns-in_err-first-clause-err : goal.returns-in_err-first-clause-err
returns-in_err-first-clause-err g c =
    grind (arith, err_from_is_err_and c.from_residual.result c.from_residual.ensures.1, no_point)

pub returns-in_err-add_next-clause-err : goal.returns-in_err-add_next-clause-err
returns-in_err-add_next-clause-err g c =
    let p = err_from_is_err_and c.from_residual-in_err-add_next.result c.from_residual-in_err-add_next.ensures.1 in
    let due = c.args.count - (c.loop-told._told + 1) in
    rw (p.1, p.2) (λ other. c.loop-told.invariant.leads (suc due) (omega arith) (Err c.in_err-add_next.field-0.0) (c.in_err-add_next.ensures.err due other))

pub loop-told-preserved : goal.loop-told-preserved
loop-told-preserved g c = record {
  count_is = let more = c.in_ok-add_next.ensures.one_more in omega (arith, more, c.loop-told.invariant.count_is);
  leads = λ due is o judged.
      c.loop-told.invariant.leads (suc due) (omega arith) o (c.in_ok-add_next.ensures.ok due o judged);
}

pub returns-clause-ok : goal.returns-clause-ok
returns-clause-ok g c = λ o judged.
    let some : 1 ≤ c.args.count = omega (arith, c.requires.some) in
    let within = c.loop-told.auto._told-end some in
    c.loop-told.invariant.leads 0 (omega arith) o judged

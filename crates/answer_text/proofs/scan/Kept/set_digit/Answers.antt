use Rattle.std.proofs.Common.{arith}
use Rattle.answer_text.proofs.lemmas.ScanSets.{TakesDigit, leads-set, set-sound, dead-glyph, dead-past, dead-stray}
use Rattle.answer_text.proofs.scan.Kept.set_digit.Goals as goal
use Rattle.answer_text.proofs.scan.Kept.set_digit.Goals.{then-first-size-via-then-first-size, then-first-size-via-else-first-size+then-not-is_told}

pub returns-in_err-value-clause-dead : goal.returns-in_err-value-clause-dead
returns-in_err-value-clause-dead c = rw c.from_residual.ensures (λ sound. dead-glyph c.args.self.now c.args.place c.args.byte c.in_err-value.ensures.none)

pub returns-then-first-size-clause-dead : goal.returns-then-first-size-clause-dead
returns-then-first-size-clause-dead c = λ sound.
    let size = c.len-size.ensures in
    elim c.then-first-size.branch [
      | then-first-size-via-then-first-size w ↦ let past = w.if-first-size.true in dead-past c.args.self.now c.args.place c.args.byte (omega arith)
      | then-first-size-via-else-first-size+then-not-is_told w ↦
          dead-stray c.args.self.now c.args.place c.in_ok-value.value c.args.byte c.in_ok-value.ensures.digit.0 c.in_ok-value.ensures.digit.1
          (λ all. let told = w.is_told.ensures.1 (λ r below is. let inside = all r below is in omega arith) in let stray = w.if-not-is_told.true in absurd cc)
    ]

pub returns-clause-next : goal.returns-clause-next
returns-clause-next c =
    grind (arith, TakesDigit c.args.self.now (record c.args.self.now { members = c.add_four.new.self }) c.args.place c.in_ok-value.value c.args.byte, leads-set, set-sound)

use Rattle.std.proofs.Common.{arith}
use Rattle.answer_text.proofs.lemmas.ScanNumbers.{leads-next, dead-next}
use Rattle.answer_text.proofs.scan.number.next_digit.Goals as goal
use Rattle.answer_text.proofs.scan.number.next_digit.Goals.{else-value-gt0-via-then-value-gt0+else-digit-last, then-value-tenth, else-value-tenth+then-value-tenth-2, else-value-tenth+else-value-tenth-2, else-value-gt0-via-else-value-gt0}

pub returns-in_err-digit-clause-dead : goal.returns-in_err-digit-clause-dead
returns-in_err-digit-clause-dead c =
    rw c.from_residual.ensures (λ k inside other. dead-next k c.args.field c.args.value c.args.byte inside other (λ low high some within. c.in_err-digit.ensures.none low high))

pub returns-then-digit-last-clause-leads : goal.returns-then-digit-last-clause-leads
returns-then-digit-last-clause-leads c = grind (arith, leads-next)

pub returns-else-value-gt0-clause-dead : goal.returns-else-value-gt0-clause-dead
returns-else-value-gt0-clause-dead c = λ k inside other. dead-next k c.args.field c.args.value c.args.byte inside other
    (λ low high some within.
    let digit = c.in_ok-digit.ensures.digit in
    let limit = c.greatest-tenth.ensures.limit in
    let last = c.greatest-tenth.ensures.digit in
    elim c.else-value-gt0.branch [
      | else-value-gt0-via-then-value-gt0+else-digit-last w ↦
          elim w.if-value-tenth.branch [ then-value-tenth u ↦ omega arith | else-value-tenth+then-value-tenth-2 u ↦ omega arith | else-value-tenth+else-value-tenth-2 u ↦ omega arith ]
      | else-value-gt0-via-else-value-gt0 w ↦ omega arith
    ])

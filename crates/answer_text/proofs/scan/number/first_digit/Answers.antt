use Rattle.std.proofs.Common.{arith}
use Rattle.answer_text.proofs.lemmas.ScanNumbers.{leads-first, dead-first}
use Rattle.answer_text.proofs.scan.number.first_digit.Goals as goal

pub returns-in_err-digit-clause-dead : goal.returns-in_err-digit-clause-dead
returns-in_err-digit-clause-dead c = rw c.from_residual.ensures (λ k. dead-first k c.args.field c.args.byte (λ low high some within. c.in_err-digit.ensures.none low high))

pub returns-then-is_positive-clause-dead : goal.returns-then-is_positive-clause-dead
returns-then-is_positive-clause-dead c = λ k. dead-first k c.args.field c.args.byte
    (λ low high some within.
    let digit = c.in_ok-digit.ensures.digit in
    let zero_digit = c.if-digit-eq0.true in
    some (omega arith) (c.is_positive.ensures.0 c.if-is_positive.true))

pub returns-clause-leads : goal.returns-clause-leads
returns-clause-leads c = λ k. leads-first k c.args.field c.in_ok-digit.digit c.args.byte c.in_ok-digit.ensures.digit.0 c.in_ok-digit.ensures.digit.1

pub returns-then-digit-last-clause-dead : goal.returns-then-digit-last-clause-dead
returns-then-digit-last-clause-dead c = λ k. dead-first k c.args.field c.args.byte
    (λ low high some within.
    let digit = c.in_ok-digit.ensures.digit in
    omega (arith, digit, c.greatest-tenth.ensures.limit, c.if-tenth-eq0.true, c.if-digit-last.true))

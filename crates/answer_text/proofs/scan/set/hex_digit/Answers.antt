use Rattle.std.proofs.Common.{arith}
use Rattle.answer_text.proofs.lemmas.HexTable.{digit_by_table, no_digit_by_table}
use Rattle.answer_text.proofs.scan.set.hex_digit.Goals as goal

pub returns-then-value-lt16-clause-digit : goal.returns-then-value-lt16-clause-digit
returns-then-value-lt16-clause-digit c = digit_by_table c.args.byte (omega (arith, c.ranges.byte)) c.if-value-lt16.true

pub returns-else-value-lt16-clause-none : goal.returns-else-value-lt16-clause-none
returns-else-value-lt16-clause-none c = no_digit_by_table c.args.byte c.if-value-lt16.false

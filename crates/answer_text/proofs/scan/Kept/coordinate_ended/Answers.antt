use Rattle.answer_text.proofs.lemmas.ScanNumbers.{leads-x1, leads-y1, leads-x2, leads-x}
use Rattle.std.proofs.Common.{arith}
use Rattle.answer_text.proofs.scan.Kept.coordinate_ended.Goals as goal

pub returns-in-X1-clause-next : goal.returns-in-X1-clause-next
returns-in-X1-clause-next c = λ minus value is inside name.
    (grind (arith, leads-x1))

pub returns-in-Y1-clause-next : goal.returns-in-Y1-clause-next
returns-in-Y1-clause-next c = λ minus value is inside name.
    (grind (arith, leads-y1))

pub returns-in-X2-clause-next : goal.returns-in-X2-clause-next
returns-in-X2-clause-next c = λ minus value is inside name.
    (grind (arith, leads-x2))

pub returns-in-X-clause-next : goal.returns-in-X-clause-next
returns-in-X-clause-next c = λ minus value is inside name.
    (grind (arith, leads-x))

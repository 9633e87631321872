use Rattle.std.proofs.Common.{true, sym, subst}
use Rattle.answer_text.specs.declared.scan.Scan.TheVariants as scan
use Rattle.answer_text.specs.declared.scan.Field.TheVariants as field
use Rattle.answer_text.specs.Scanning.{LeadsTo}
use Rattle.answer_text.proofs.lemmas.ScanNumbers.{leads-minus, leads-plain, dead-plain}
use Rattle.answer_text.proofs.lemmas.WordLemmas.{none_then, some_then}
use Rattle.answer_text.proofs.scan.number.coordinate_byte.Goals as goal

pub returns-then-byte-eq45-clause-leads : goal.returns-then-byte-eq45-clause-leads
returns-then-byte-eq45-clause-leads c = λ k. subst (λ b. LeadsTo k (scan.Coordinate c.args.corner) b k (scan.Due (field.Coordinate c.args.corner true))) (sym c.if-byte-eq45.true) (leads-minus k c.args.corner)

pub returns-else-byte-eq45-clause-leads : goal.returns-else-byte-eq45-clause-leads
returns-else-byte-eq45-clause-leads c =
    some_then c.first_digit.result c.first_digit.ensures.leads (λ next leads k. leads-plain k c.args.corner c.args.byte next c.if-byte-eq45.false (leads k))

pub returns-else-byte-eq45-clause-dead : goal.returns-else-byte-eq45-clause-dead
returns-else-byte-eq45-clause-dead c =
    none_then c.first_digit.result c.first_digit.ensures.dead (λ dead k. dead-plain k c.args.corner c.args.byte c.if-byte-eq45.false (dead k))

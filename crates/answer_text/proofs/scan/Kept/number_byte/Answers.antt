use Rattle.std.proofs.Common.{sym, subst}
use Rattle.answer_text.specs.declared.scan.Scan.TheVariants as scan
use Rattle.answer_text.specs.Scanning.{IsDead}
use Rattle.answer_text.proofs.lemmas.WordLemmas.{none_then}
use Rattle.answer_text.proofs.scan.Kept.number_byte.Goals as goal

pub returns-then-byte-eq32-clause-dead : goal.returns-then-byte-eq32-clause-dead
returns-then-byte-eq32-clause-dead c =
    none_then c.number_ended.result c.number_ended.ensures.dead (λ dead inside. subst (IsDead c.args.self.now (scan.Number c.args.field c.args.value)) (sym c.if-byte-eq32.true) (dead inside))

pub returns-else-byte-eq32-clause-dead : goal.returns-else-byte-eq32-clause-dead
returns-else-byte-eq32-clause-dead c =
    none_then c.next_digit.result c.next_digit.ensures.dead (λ dead inside. dead c.args.self.now inside c.if-byte-eq32.false)

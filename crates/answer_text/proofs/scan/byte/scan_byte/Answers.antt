use Rattle.std.proofs.Common.{sym, subst}
use Rattle.answer_text.specs.Scanning.{IsSound, IsDead}
use Rattle.answer_text.proofs.lemmas.WordLemmas.{none_then}
use Rattle.answer_text.proofs.scan.byte.scan_byte.Goals as goal

pub returns-in-Word-clause-dead : goal.returns-in-Word-clause-dead
returns-in-Word-clause-dead c =
    none_then c.word_byte.result c.word_byte.ensures.dead
    (λ dead sound. subst (λ s. IsDead c.args.kept.now s c.args.byte) (sym c.in-Word.is) (dead (subst (IsSound c.args.kept.now) c.in-Word.is sound).0 c.args.kept.now))

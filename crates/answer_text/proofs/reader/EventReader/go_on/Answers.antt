use Rattle.std.proofs.Common.{refl}
use Rattle.std.proofs.lemmas.List.{append-nil}
use Rattle.answer_text.proofs.lemmas.ReaderLaws.{reads_on, ceases_on}
use Rattle.answer_text.proofs.reader.EventReader.go_on.Goals as goal

pub returns-in_err-self-clause-ceases : goal.returns-in_err-self-clause-ceases
returns-in_err-self-clause-ceases c =
    rw c.from_residual.ensures (λ V bytes events reads. ceases_on V bytes events c.args.byte c.args.self.now reads c.requires.inside c.in_err-self.ensures.dead)

pub returns-clause-reads : goal.returns-clause-reads
returns-clause-reads c = λ V bytes events reads.
    rw (append-nil events) (reads_on V bytes events c.args.byte c.args.self.now _ reads c.requires.inside (record { next = c.in_ok-self.ensures.next reads.sound reads.name; head = refl; form = refl }) refl refl)

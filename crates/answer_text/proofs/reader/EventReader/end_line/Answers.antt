use Rattle.std.proofs.Common.{refl}
use Rattle.answer_text.proofs.lemmas.ReaderLaws.{reads_line, ceases_end}
use Rattle.answer_text.proofs.reader.EventReader.end_line.Goals as goal

pub returns-in_err-event-clause-ceases : goal.returns-in_err-event-clause-ceases
returns-in_err-event-clause-ceases c = rw c.from_residual.ensures (λ V bytes events reads. ceases_end V bytes events c.args.self.now reads c.in_err-event.ensures.none)

pub returns-clause-reads : goal.returns-clause-reads
returns-clause-reads c = λ V bytes events reads.
    reads_line V bytes events c.args.self.now _ c.in_ok-event.event reads (record { closes = c.in_ok-event.ensures.closes reads.sound reads.name; next = c.first_scan-self.ensures; line = refl; form = refl }) refl

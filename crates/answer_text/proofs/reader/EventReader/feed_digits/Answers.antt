use Rattle.std.proofs.Common.{subst, arith}
use Rattle.std.proofs.lemmas.List.{length-take-le}
use Rattle.answer_text.specs.declared.scan.Scan.TheVariants as scan
use Rattle.answer_text.specs.Scanning.{IsSound}
use Rattle.answer_text.proofs.lemmas.ReaderLaws.{reads_run}
use Rattle.answer_text.proofs.reader.EventReader.feed_digits.Goals as goal

pub returns-clause-reads : goal.returns-clause-reads
returns-clause-reads c V bytes events reads =
    grind (arith, c.set_digits-taken.ensures.run (subst (IsSound (c.args.self.now).kept) c.in-Set.is reads.sound) reads.name, length-take-le (c.set_digits-taken.result) c.args.piece.now c.set_digits-taken.ensures.few, reads_run)

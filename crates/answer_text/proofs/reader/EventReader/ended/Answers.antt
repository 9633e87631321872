use Rattle.answer_text.specs.Lines.{lines_text}
use Rattle.std.proofs.lemmas.List.{append-nil}
use Rattle.answer_text.proofs.lemmas.ReadLaws.{read_whole}
use Rattle.std.proofs.Common.{arith}
use Rattle.std.proofs.lemmas.Bool.{false≢true}
use Rattle.answer_text.proofs.lemmas.ReaderLaws.{ended_headed, unended_stops}
use Rattle.answer_text.proofs.reader.EventReader.ended.Goals as goal

pub returns-in-Ended-clause-reads : goal.returns-in-Ended-clause-reads
returns-in-Ended-clause-reads c = λ V bytes events reads. (grind (arith, reads.at_end c.in-Ended.is, append-nil (lines_text (reads.lines).lines), read_whole))

pub returns-in-Ended-clause-headed : goal.returns-in-Ended-clause-headed
returns-in-Ended-clause-headed c = λ yes V bytes events reads. ended_headed V bytes events c.args.self.now reads c.in-Ended.is

pub returns-in_default : goal.returns-in_default
returns-in_default c = grind (arith, unended_stops, false≢true)

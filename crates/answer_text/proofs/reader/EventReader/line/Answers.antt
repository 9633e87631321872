use Rattle.answer_text.proofs.lemmas.ReaderLaws.{line_count}
use Rattle.answer_text.proofs.reader.EventReader.line.Goals as goal

pub returns-clause-feeds : goal.returns-clause-feeds
returns-clause-feeds c = λ V bytes events reads. line_count V bytes events c.args.self.now reads

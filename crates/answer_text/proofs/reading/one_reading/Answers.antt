use Rattle.answer_text.proofs.lemmas.Readings.{one_reading_lem}
use Rattle.answer_text.proofs.reading.one_reading.Goals as goal

pub returns : goal.returns
returns c = one_reading_lem

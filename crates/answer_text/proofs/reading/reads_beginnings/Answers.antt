use Rattle.answer_text.proofs.lemmas.ReaderLaws.{reads_begin}
use Rattle.answer_text.proofs.reading.reads_beginnings.Goals as goal

pub returns : goal.returns
returns c = reads_begin

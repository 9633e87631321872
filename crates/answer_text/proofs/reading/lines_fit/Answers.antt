use Rattle.answer_text.proofs.lemmas.Due.{answer_fits}
use Rattle.answer_text.proofs.lemmas.LineTexts.{line_bytes-lacks}
use Rattle.answer_text.proofs.reading.lines_fit.Goals as goal

pub returns-clause-fit : goal.returns-clause-fit
returns-clause-fit c = λ v F bytes answer spells. answer_fits v F answer spells.fits

pub returns-clause-lines : goal.returns-clause-lines
returns-clause-lines c = line_bytes-lacks

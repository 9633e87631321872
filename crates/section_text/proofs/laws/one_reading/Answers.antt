use Rattle.section_text.proofs.Whole.{one_spelling}
use Rattle.section_text.proofs.laws.one_reading.Goals as goal

pub returns : goal.returns
returns g c = one_spelling g.S.SectionFormat.format c.lawful.ensures

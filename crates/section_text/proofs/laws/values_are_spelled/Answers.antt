use Rattle.section_text.proofs.Whole.{spells, comes_to}
use Rattle.section_text.proofs.laws.values_are_spelled.Goals as goal

pub returns : goal.returns
returns g c = λ bytes v. (spells g.S.SectionFormat.format c.lawful.ensures bytes v, comes_to g.S.SectionFormat.format c.lawful.ensures bytes v)

use Rattle.text_in.specs.Lines.{lines_of}
use Rattle.section_text.specs.Faults.{nothing}
use Rattle.section_text.proofs.Outcome.{judges_one}
use Rattle.section_text.proofs.laws.one_outcome.Goals as goal

pub returns : goal.returns
returns g c = λ bytes o o'. judges_one g.S.SectionFormat.format c.lawful.ensures nothing 1 (lines_of bytes) o o'

use Rattle.text_in.specs.LineLaws.{lines_of_one}
use Rattle.text_in.proofs.laws.one_text.Goals as goal

pub returns : goal.returns
returns c = lines_of_one

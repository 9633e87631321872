use Rattle.fst_file.proofs.lemmas.Lawful.{fst_lawful}
use Rattle.fst_file.proofs.format.FstFormatSectionFormat.lawful.Goals as goal

pub returns : goal.returns
returns c = fst_lawful

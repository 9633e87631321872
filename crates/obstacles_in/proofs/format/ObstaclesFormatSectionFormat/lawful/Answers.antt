use Rattle.obstacles_in.proofs.lemmas.Lawful.{obstacles_lawful}
use Rattle.obstacles_in.proofs.format.ObstaclesFormatSectionFormat.lawful.Goals as goal

pub returns : goal.returns
returns c = obstacles_lawful

use Rattle.points_in.proofs.lemmas.Written.{written_lists}
use Rattle.points_in.proofs.laws.written_points.Goals as goal

pub returns : goal.returns
returns c = written_lists

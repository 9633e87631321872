-- The law is its lemma.
use Rattle.obstacle_grid.proofs.lemmas.Blocking.{blocking_is_crossing_lem}
use Rattle.obstacle_grid.proofs.laws.blocking_is_crossing.Goals as goal

pub returns : goal.returns
returns c = blocking_is_crossing_lem

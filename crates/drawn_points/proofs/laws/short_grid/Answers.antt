use Rattle.drawn_points.proofs.lemmas.Grids.{drawn_grid}
use Rattle.drawn_points.proofs.laws.short_grid.Goals as goal

pub returns : goal.returns
returns c = drawn_grid

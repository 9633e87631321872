use Rattle.std.proofs.Common.{arith, ◌∙◌}
use Rattle.hanan_grid.specs.GridLaws.{IsRising-xs_of, IsRising-ys_of, length-xs_of-le, length-ys_of-le}
use Rattle.hanan_grid.proofs.grid.Grid.crossing_place.Goals as goal

pub place_in-requires-clause-rising : goal.place_in-requires-clause-rising
place_in-requires-clause-rising c = rw (c.deref.ensures.value ∙ c.self.invariant.columns) (IsRising-xs_of c.self.inside.points)

pub place_in-requires-clause-few : goal.place_in-requires-clause-few
place_in-requires-clause-few c = rw (c.deref.ensures.value ∙ c.self.invariant.columns) (omega (arith, length-xs_of-le c.self.inside.points))

pub place_in-requires-2-clause-rising : goal.place_in-requires-2-clause-rising
place_in-requires-2-clause-rising c = rw (c.deref-2.ensures.value ∙ c.self.invariant.rows) (IsRising-ys_of c.self.inside.points)

pub place_in-requires-2-clause-few : goal.place_in-requires-2-clause-few
place_in-requires-2-clause-few c = rw (c.deref-2.ensures.value ∙ c.self.invariant.rows) (omega (arith, length-ys_of-le c.self.inside.points))

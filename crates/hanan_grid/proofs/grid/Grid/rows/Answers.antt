use Rattle.std.proofs.Common.{length, ap, arith}
use Rattle.hanan_grid.specs.GridLaws.{length-ys_of-le}
use Rattle.hanan_grid.proofs.grid.Grid.rows.Goals as goal

pub overflow_cast-result : goal.overflow_cast-result
overflow_cast-result c = omega (arith, ap length c.self.invariant.rows, length-ys_of-le c.self.inside.points)

pub returns-clause-few : goal.returns-clause-few
returns-clause-few c = omega (arith, ap length c.self.invariant.rows, length-ys_of-le c.self.inside.points)

-- There are at most 100 lines each way, and at most 2,500 crossings.
use Rattle.std.proofs.Common.{arith, ap, length}
use Rattle.obstacle_grid.proofs.lemmas.Sizes.{few_columns, few_rows}
use Rattle.obstacle_grid.proofs.grid.ObstacleGrid.vertex_count.Goals as goal

pub overflow_cast-result : goal.overflow_cast-result
overflow_cast-result c =
    omega (arith, c.len.ensures, ap length c.self.invariant.columns, few_columns _ c.self.invariant.obstacles)

pub overflow_cast-result-2 : goal.overflow_cast-result-2
overflow_cast-result-2 c =
    omega (arith, c.len-2.ensures, ap length c.self.invariant.rows, few_rows _ c.self.invariant.obstacles)

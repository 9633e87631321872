-- The lines are those of the points' and boxes' marks.
use Rattle.std.proofs.Common.{arith}
use Rattle.obstacle_grid.proofs.grid.ObstacleGrid.new.Goals as goal

pub invariant_of-result : goal.invariant_of-result
invariant_of-result c = grind arith

-- The lines are those of the points and boxes, 1 to 100 each way.
use Rattle.std.proofs.Common.{arith}
use Rattle.std.proofs.lemmas.Result.{IfOk-weaker}
use Rattle.hanan_grid.specs.GridLaws.{ends_below}
use Rattle.obstacle_grid.proofs.lemmas.Sizes.{few_columns, few_rows, some_columns, some_rows, few_edges}
use Rattle.obstacle_grid.proofs.grid.ObstacleGrid.edges.Goals as goal

pub line_edges-requires-clause-columns : goal.line_edges-requires-clause-columns
line_edges-requires-clause-columns c = grind (arith, some_columns)

pub line_edges-requires-clause-rows : goal.line_edges-requires-clause-rows
line_edges-requires-clause-rows c = grind (arith, some_rows)

pub line_edges-requires-clause-few_columns : goal.line_edges-requires-clause-few_columns
line_edges-requires-clause-few_columns c =
    grind (arith, few_columns c.self.inside.obstacles.now c.self.invariant.obstacles)

pub line_edges-requires-clause-few_rows : goal.line_edges-requires-clause-few_rows
line_edges-requires-clause-few_rows c = grind (arith, few_rows c.self.inside.obstacles.now c.self.invariant.obstacles)

pub returns-clause-few : goal.returns-clause-few
returns-clause-few c =
    grind (arith, few_edges c.self.inside.obstacles.now c.self.invariant.obstacles, IfOk-weaker)

pub returns-clause-ends : goal.returns-clause-ends
returns-clause-ends c =
    grind (arith, IfOk-weaker, ends_below c.deref.result.now c.deref-2.result.now)

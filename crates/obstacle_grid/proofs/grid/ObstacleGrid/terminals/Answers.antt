-- The lines are those of the points and boxes, at most 100 each way.
use Rattle.std.proofs.Common.{sym, subst, ◌∙◌, arith}
use Rattle.hanan_grid.specs.LinesLaws.{IsRising}
use Rattle.hanan_grid.specs.GridLaws.{IsRising-xs_of, IsRising-ys_of}
use Rattle.obstacles_in.specs.Obstacles.{marks_of}
use Rattle.obstacle_grid.proofs.lemmas.Sizes.{few_columns, few_rows}
use Rattle.obstacle_grid.proofs.grid.ObstacleGrid.terminals.Goals as goal

pub point_vertices-requires-clause-rising_columns : goal.point_vertices-requires-clause-rising_columns
point_vertices-requires-clause-rising_columns c =
    subst IsRising (sym (c.deref.ensures.value ∙ c.self.invariant.columns))
    (IsRising-xs_of (marks_of c.self.inside.obstacles.now))

pub point_vertices-requires-clause-rising_rows : goal.point_vertices-requires-clause-rising_rows
point_vertices-requires-clause-rising_rows c =
    subst IsRising (sym (c.deref-2.ensures.value ∙ c.self.invariant.rows))
    (IsRising-ys_of (marks_of c.self.inside.obstacles.now))

pub point_vertices-requires-clause-few_columns : goal.point_vertices-requires-clause-few_columns
point_vertices-requires-clause-few_columns c =
    grind (arith, few_columns c.self.inside.obstacles.now c.self.invariant.obstacles)

pub point_vertices-requires-clause-few_rows : goal.point_vertices-requires-clause-few_rows
point_vertices-requires-clause-few_rows c =
    grind (arith, few_rows c.self.inside.obstacles.now c.self.invariant.obstacles)

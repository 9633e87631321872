-- What the grid of points and boxes keeps of them.
use Rattle.std.specs.Prelude.{◌≡◌, ℤ, List}
use Rattle.obstacles_in.specs.Obstacles.{ObstaclesValue, AreObstacles, columns_of, rows_of}

-- The lines are those of the points and boxes.
pub record IsGridOf (o : ObstaclesValue) (xs ys : List ℤ) : Type 0 where
  pub obstacles : AreObstacles o
  pub columns : xs ≡ columns_of o
  pub rows : ys ≡ rows_of o

-- What a list of points to be joined is.
use Rattle.std.specs.Prelude.{◌<◌, ◌≤◌, List, length, All}
use Rattle.points_in.specs.declared.point.Point.{Point}
use Rattle.points_in.specs.Text.{IsPoint}
use Rattle.points_in.specs.Terminals.{AreDistinct}

-- 1 to 50 distinct points with 64-bit coordinates
pub record ArePoints (ps : List Point) : Type 0 where
  pub some : 0 < length ps
  pub few : length ps ≤ 50
  pub distinct : AreDistinct ps
  pub points : All IsPoint ps

-- What a list of drawn points is.
use Rattle.std.specs.Prelude.{◌<◌, ◌≤◌, pos, ◌≤ℤ◌, ◌<ℤ◌, List, length}
use Rattle.std.specs.List.{AllByRecursion}
use Rattle.points_in.specs.declared.point.Point.{Point}

-- both coordinates are from 0 to 9999
pub record IsNear (p : Point) : Type 0 where
  pub left : pos 0 ≤ℤ p.x
  pub right : p.x <ℤ pos 10000
  pub low : pos 0 ≤ℤ p.y
  pub high : p.y <ℤ pos 10000

-- 1 to 50 of such points
pub record AreDrawn (ps : List Point) : Type 0 where
  pub some : 0 < length ps
  pub few : length ps ≤ 50
  pub near : AllByRecursion IsNear ps

-- How far apart crossings of a grid are, against the sum of its edges.
use Rattle.std.proofs.Common.{◌≤◌, List, arith}
use Rattle.points_in.specs.declared.point.Point.{Point}
use Rattle.net_graph.specs.Graph.{total_of}
use Rattle.hanan_grid.specs.Grid.{xs_of, ys_of, hanan_grid_of}
use Rattle.hanan_grid.specs.Distance.{distance_between}
use Rattle.hanan_grid.specs.LinesLaws.{place_of-below}
use Rattle.hanan_grid.specs.GridLaws.{IsRising-xs_of, IsRising-ys_of}
use Rattle.hanan_grid.specs.TotalLaws.{width_of, apart_le, total_of-hanan_grid_of}
use Rattle.hanan_grid.specs.Names.{IsCrossing}

-- two crossings are at most the sum of all edges apart
pub distance_between-le : (ps : List Point) (p q : Point) → IsCrossing (xs_of ps) (ys_of ps) p → IsCrossing (xs_of ps) (ys_of ps) q → distance_between p q ≤ total_of (hanan_grid_of ps)
distance_between-le ps p q at at' =
    grind (
      arith,
      apart_le (xs_of ps) p.x q.x at.x at'.x (IsRising-xs_of ps),
      apart_le (ys_of ps) p.y q.y at.y at'.y (IsRising-ys_of ps),
      place_of-below p.x (xs_of ps) at.x (IsRising-xs_of ps),
      place_of-below p.y (ys_of ps) at.y (IsRising-ys_of ps),
      width_of (xs_of ps),
      width_of (ys_of ps),
      total_of-hanan_grid_of ps,
    )

-- The edges of lines run along an axis.
use Rattle.std.specs.Prelude.{ℕ, ◌+◌, ◌-◌, ◌≡◌, ◌<◌, ℤ, List, length, All}
use Rattle.std.proofs.Common.{arith}
use Rattle.std.proofs.lemmas.List.Elements.{All-append}
use Rattle.points_in.specs.declared.point.Point.{Point}
use Rattle.net_graph.specs.declared.edge.Edge.{Edge}
use Rattle.hanan_grid.specs.Grid.{horizontal, vertical, horizontals, verticals}
use Rattle.hanan_grid.specs.GridLaws.{edges_of_lines, IsRising-xs_of, IsRising-ys_of}
use Rattle.hanan_grid.specs.LinesLaws.{IsRising, line_at-rises}
use Rattle.hanan_grid.specs.Names.{point_of_vertex}
use Rattle.hanan_grid.specs.NamesLaws.{point_of_vertex-at}
use Rattle.hanan_grid.specs.Tables.{All-table_from}
use Rattle.obstacles_in.specs.Obstacles.{marks_of, columns_of, rows_of}
use Rattle.obstacle_grid.specs.Blocked.{IsStraight}
use Rattle.obstacle_grid.specs.Crossing.{EdgesRunStraight}

-- an edge of lines runs along an axis
abbrev IsStraightIn : List ℤ → List ℤ → Edge → Type 0
IsStraightIn xs ys e = IsStraight (point_of_vertex xs ys e.a) (point_of_vertex xs ys e.b)

-- two points that are such two points
straight_at : (p q p' q' : Point) → p ≡ p' → q ≡ q' → IsStraight p' q' → IsStraight p q
straight_at p q p' q' from to straight = rw (from, to) straight

-- a horizontal edge does
horizontal_straight : (xs ys : List ℤ) (j i : ℕ) → IsRising xs → i + 1 < length xs
    → IsStraightIn xs ys (horizontal xs j i)
horizontal_straight xs ys j i rises column =
    grind (arith, straight_at, point_of_vertex-at, point_of_vertex-at xs ys (i + 1) j column, line_at-rises)

-- and so does a vertical one
vertical_straight : (xs ys : List ℤ) (j i : ℕ) → IsRising ys → j + 1 < length ys → i < length xs
    → IsStraightIn xs ys (vertical (length xs) ys j i)
vertical_straight xs ys j i rises row column =
    grind (arith, straight_at, point_of_vertex-at xs ys i j column, point_of_vertex-at xs ys i (j + 1) column, line_at-rises)

-- all edges of lines do
edges_straight : (xs ys : List ℤ) → IsRising xs → IsRising ys → All (IsStraightIn xs ys) (edges_of_lines xs ys)
edges_straight xs ys rises rises' = All-append (IsStraightIn xs ys) (horizontals xs ys) (verticals xs ys)
    (All-table_from (IsStraightIn xs ys) (horizontal xs) 0 (length ys) (length xs - 1)
    (λ j i row column. horizontal_straight xs ys j i rises (omega arith)))
    (All-table_from (IsStraightIn xs ys) (vertical (length xs) ys) 0 (length ys - 1) (length xs)
    (λ j i row column. vertical_straight xs ys j i rises' (omega arith) column))

-- and so the grid's
pub edges_run_straight_lem : EdgesRunStraight
edges_run_straight_lem o =
    edges_straight (columns_of o) (rows_of o) (IsRising-xs_of (marks_of o)) (IsRising-ys_of (marks_of o))

-- Points to be joined around boxes, and the lines of their grid.
use Rattle.std.specs.Prelude.{ℕ, ◌*◌, ◌≤◌, ℤ, ◌<ℤ◌, List, [], ◌∷◌, ◌++◌, length, flat_map, All, FitsSigned}
use Rattle.std.specs.Int.{w64}
use Rattle.points_in.specs.declared.point.Point.{Point}
use Rattle.points_in.specs.Points.{ArePoints}
use Rattle.hanan_grid.specs.Grid.{xs_of, ys_of}
use Rattle.obstacles_in.specs.declared.rectangle.Rectangle.{Rectangle}

pub record ObstaclesValue : Type 0 where
  pub points : List Point
  pub boxes : List Rectangle

-- a rectangle of some width and height, with 64-bit coordinates
pub record IsBox (b : Rectangle) : Type 0 where
  pub left : FitsSigned w64 b.x1
  pub lower : FitsSigned w64 b.y1
  pub right : FitsSigned w64 b.x2
  pub upper : FitsSigned w64 b.y2
  pub wide : b.x1 <ℤ b.x2
  pub high : b.y1 <ℤ b.y2

-- the point lies strictly between the sides of the box
pub record IsInside (b : Rectangle) (p : Point) : Type 0 where
  pub left : b.x1 <ℤ p.x
  pub lower : b.y1 <ℤ p.y
  pub right : p.x <ℤ b.x2
  pub upper : p.y <ℤ b.y2

-- the lower left corner and the upper right one, which tell all sides
abbrev pub corners_of : Rectangle → List Point
corners_of b = (record { x = b.x1; y = b.y1 }) ∷ (record { x = b.x2; y = b.y2 }) ∷ []

-- the points, and two corners of each box: their coordinates are the lines of the grid
abbrev pub marks_of : ObstaclesValue → List Point
marks_of o = o.points ++ flat_map corners_of o.boxes

-- the vertical lines, by their x, and the horizontal lines, by their y: Hanan's, with the sides of all boxes added
abbrev pub columns_of : ObstaclesValue → List ℤ
columns_of o = xs_of (marks_of o)

abbrev pub rows_of : ObstaclesValue → List ℤ
rows_of o = ys_of (marks_of o)

-- in how many places the lines cross
abbrev pub crossing_count : ObstaclesValue → ℕ
crossing_count o = length (columns_of o) * length (rows_of o)

-- points, boxes none of which has a point strictly inside, and a grid of at most 2,500 crossings
pub record AreObstacles (o : ObstaclesValue) : Type 0 where
  pub points : ArePoints o.points
  pub few : length o.boxes ≤ 25
  pub boxes : All IsBox o.boxes
  pub outside : All (λ b. All (λ p. ¬ IsInside b p) o.points) o.boxes
  pub small : crossing_count o ≤ 2500

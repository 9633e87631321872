-- Why a line of points and boxes is wrong behind what the lines before it told, or the whole, but for what is wrong in
-- any text of sections. Of the faults of one line the first in the stated order counts.
use Rattle.std.specs.Prelude.{ℕ, ◌≡◌, ◌<◌, ◌⊎◌, List, All, Any, FitsSigned}
use Rattle.std.specs.Int.{w64}
use Rattle.points_in.specs.declared.point.Point.{Point}
use Rattle.section_text.specs.declared.fault.LineFault.{LineFault}
use Rattle.section_text.specs.declared.fault.LineFault.TheVariants as line
use Rattle.obstacles_in.specs.declared.rectangle.Rectangle.{Rectangle}
use Rattle.obstacles_in.specs.declared.fault.ObstacleFault.{ObstacleFault}
use Rattle.obstacles_in.specs.declared.fault.ObstacleFault.TheVariants.{BadLine, TooManyPoints, RepeatedPoint}
use Rattle.obstacles_in.specs.declared.fault.ObstacleFault.TheVariants.{TooManyBoxes, BadBox, PointInBox, TooLarge}
use Rattle.obstacles_in.specs.Obstacles.{ObstaclesValue, IsBox, IsInside, crossing_count}

-- what is wrong in any text of sections
abbrev pub obstacle_fault_of : LineFault → ObstacleFault
obstacle_fault_of (line.BadLine n) = BadLine n
obstacle_fault_of (line.TooManyPoints n) = TooManyPoints n
obstacle_fault_of (line.RepeatedPoint n) = RepeatedPoint n
obstacle_fault_of (line.TooManyItems n) = TooManyBoxes n

-- four coordinates of 64 bits, in whatever order they stand
pub record HasCoordinates (b : Rectangle) : Type 0 where
  pub x1 : FitsSigned w64 b.x1
  pub y1 : FitsSigned w64 b.y1
  pub x2 : FitsSigned w64 b.x2
  pub y2 : FitsSigned w64 b.y2

-- none of the points lies strictly inside the box
abbrev pub IsClear : List Point → Rectangle → Type 0
IsClear ps b = All (λ p. ¬ IsInside b p) ps

-- boxes, with none of the points strictly inside one
pub record AreBoxesAround (ps : List Point) (bs : List Rectangle) : Type 0 where
  pub boxes : All IsBox bs
  pub clear : All (IsClear ps) bs

-- spelled coordinates are wrong behind these points: they are no box, or a point lies strictly inside
abbrev pub IsBoxFault : List Point → ℕ → Rectangle → ObstacleFault → Type 0
IsBoxFault ps n b f = (¬ IsBox b × (f ≡ BadBox n)) ⊎ (IsBox b × Any (IsInside b) ps × (f ≡ PointInBox n))

abbrev pub value_of : List Point → List Rectangle → ObstaclesValue
value_of ps bs = record { points = ps; boxes = bs }

-- the lines of points and boxes that were read whole cross in too many places, and in so many
abbrev pub IsTooLarge : List Point → List Rectangle → ObstacleFault → Type 0
IsTooLarge ps bs f =
    (2500 < crossing_count (value_of ps bs)) × (f ≡ TooLarge (crossing_count (value_of ps bs)))

-- Which segments run through a box: as geometry, and as a test of coordinates.
use Rattle.std.specs.Prelude.{◌≡◌, Bool, ◌&&◌, if◌then◌else◌, ℤ, ◌+ℤ◌, ◌<ℤ◌, int_lt, ◌⊎◌}
use Rattle.std.specs.Int.{int_min, int_max}
use Rattle.std.specs.Ordering.{int_eq}
use Rattle.points_in.specs.declared.point.Point.{Point}
use Rattle.obstacles_in.specs.declared.rectangle.Rectangle.{Rectangle}

-- ---- the geometry

-- A point of the plane whose coordinates are whole numbers or lie halfway between two of them, given by twice its
-- coordinates. These points suffice to see whether a segment along an axis and the interior of a box have a point in
-- common, where the ends and the corners are whole. For what they have in common lies on the segment's line, whose one
-- coordinate is whole; along the line it is an open stretch with whole ends, and such a stretch, unless it is empty,
-- has the half-whole number in its middle. Whole points would not suffice: a box one unit wide has none inside.
pub record HalfPoint : Type 0 where
  pub twice_x : ℤ
  pub twice_y : ℤ

-- twice a whole number
abbrev pub twice : ℤ → ℤ
twice z = z +ℤ z

-- the half of a number lies strictly between two whole numbers
pub record IsAmid (low high number : ℤ) : Type 0 where
  pub above : twice low <ℤ number
  pub below : number <ℤ twice high

-- the point lies strictly between the sides of the box
pub record IsWithin (b : Rectangle) (h : HalfPoint) : Type 0 where
  pub x : IsAmid b.x1 b.x2 h.twice_x
  pub y : IsAmid b.y1 b.y2 h.twice_y

-- the half of a number lies strictly between two whole numbers, of which either may be the lower
abbrev pub IsBetween : ℤ → ℤ → ℤ → Type 0
IsBetween y z number = IsAmid y z number ⊎ IsAmid z y number

-- the point lies on the horizontal segment between two points, and is none of its ends
pub record IsOnHorizontal (p q : Point) (h : HalfPoint) : Type 0 where
  pub level : p.y ≡ q.y
  pub y : h.twice_y ≡ twice p.y
  pub x : IsBetween p.x q.x h.twice_x

-- the same of a vertical segment
pub record IsOnVertical (p q : Point) (h : HalfPoint) : Type 0 where
  pub upright : p.x ≡ q.x
  pub x : h.twice_x ≡ twice p.x
  pub y : IsBetween p.y q.y h.twice_y

-- the point lies on the segment along an axis between two points, strictly between these
abbrev pub IsOnSegment : Point → Point → HalfPoint → Type 0
IsOnSegment p q h = IsOnHorizontal p q h ⊎ IsOnVertical p q h

-- The segment between two points crosses the interior of the box: a point strictly between its ends lies strictly
-- between the sides.
pub record CrossesInterior (b : Rectangle) (p q : Point) : Type 0 where
  pub common : HalfPoint
  pub on : IsOnSegment p q common
  pub within : IsWithin b common

-- the two points are the ends of a segment along an axis, the lower one first
abbrev pub IsStraight : Point → Point → Type 0
IsStraight p q = ((p.y ≡ q.y) × (p.x <ℤ q.x)) ⊎ ((p.x ≡ q.x) × (p.y <ℤ q.y))

-- ---- the test

-- the number lies strictly between two others
abbrev pub is_amid : ℤ → ℤ → ℤ → Bool
is_amid low high z = int_lt low z && int_lt z high

-- two stretches of a line overlap in more than a point: the greater of their lower ends is below the lesser of their
-- upper ends
abbrev pub overlap : ℤ → ℤ → ℤ → ℤ → Bool
overlap low high low' high' = int_lt (int_max low low') (int_min high high')

-- The box blocks a horizontal segment: the segment's line runs strictly between the lower and the upper side, and its
-- stretch and the box's overlap.
abbrev pub blocks_level : Rectangle → Point → Point → Bool
blocks_level b p q = is_amid b.y1 b.y2 p.y && overlap p.x q.x b.x1 b.x2

-- the same of a vertical one, with the directions exchanged
abbrev pub blocks_upright : Rectangle → Point → Point → Bool
blocks_upright b p q = is_amid b.x1 b.x2 p.x && overlap p.y q.y b.y1 b.y2

-- The box blocks the segment along an axis from a point to a later one.
abbrev pub is_blocked_by : Rectangle → Point → Point → Bool
is_blocked_by b p q = if int_eq p.y q.y then blocks_level b p q else blocks_upright b p q

-- Straight stretches between two points, and the edges of a grid that lie on them.
use Rattle.std.specs.Prelude.{ℕ, ◌≡◌, ◌≢◌, ◌<◌, ◌≤ℤ◌, ℤ, List, slice_get, Some, ◌⊎◌}
use Rattle.points_in.specs.declared.point.Point.{Point}
use Rattle.net_graph.specs.declared.edge.Edge.{Edge}
use Rattle.hanan_grid.specs.declared.fault.SegmentFault.{SegmentFault}
use Rattle.hanan_grid.specs.declared.fault.SegmentFault.TheVariants.{Crooked, OffGrid, Memory}
use Rattle.hanan_grid.specs.Grid.{xs_of, ys_of, hanan_grid_of}
use Rattle.hanan_grid.specs.Names.{IsCrossing, point_of_vertex}

-- the stretch between the two points is vertical or horizontal
abbrev pub IsStraight : Point → Point → Type 0
IsStraight p q = (p.x ≡ q.x) ⊎ (p.y ≡ q.y)

-- the number is between two others, of which either may be the lesser, or is one of them
abbrev pub IsBetween : ℤ → ℤ → ℤ → Type 0
IsBetween a b z = ((a ≤ℤ z) × (z ≤ℤ b)) ⊎ ((b ≤ℤ z) × (z ≤ℤ a))

-- the point lies between two others: on their stretch, where that is straight
pub record LiesBetween (p q r : Point) : Type 0 where
  pub x : IsBetween p.x q.x r.x
  pub y : IsBetween p.y q.y r.y

-- both ends of the grid's edge of this number lie on the stretch
abbrev pub IsOnStretch : List Point → Point → Point → ℕ → Type 0
IsOnStretch ps p q n =
    (e : Edge) × (slice_get (hanan_grid_of ps).edges n ≡ Some e)
    × LiesBetween p q (point_of_vertex (xs_of ps) (ys_of ps) e.a)
    × LiesBetween p q (point_of_vertex (xs_of ps) (ys_of ps) e.b)

-- the grid's vertex of this number lies on the stretch
pub record IsVertexOnStretch (ps : List Point) (p q : Point) (v : ℕ) : Type 0 where
  pub below : v < (hanan_grid_of ps).vertices
  pub between : LiesBetween p q (point_of_vertex (xs_of ps) (ys_of ps) v)

-- the stretch is straight and its ends are crossings
pub record IsGridStretch (ps : List Point) (p q : Point) : Type 0 where
  pub straight : IsStraight p q
  pub from : IsCrossing (xs_of ps) (ys_of ps) p
  pub to : IsCrossing (xs_of ps) (ys_of ps) q

-- Why the grid has no such stretch, in the order in which it is judged. Want of memory has no cause in the
-- points.
abbrev pub IsSegmentFault : List Point → Point → Point → SegmentFault → Type 0
IsSegmentFault ps p q Crooked = (p.x ≢ q.x) × (p.y ≢ q.y)
IsSegmentFault ps p q OffGrid =
    IsStraight p q × (IsCrossing (xs_of ps) (ys_of ps) p → IsCrossing (xs_of ps) (ys_of ps) q → ⊥)
IsSegmentFault ps p q (Memory e) = Unit {0}

-- The rectilinear distance of two points.
use Rattle.std.specs.Prelude.{ℕ, ◌+◌, pos, ◌-ℤ◌, List, slice_index_or, unsigned_abs}
use Rattle.points_in.specs.declared.point.Point.{Point}

-- how far it is along x and along y
abbrev pub distance_between : Point → Point → ℕ
distance_between p q = unsigned_abs (p.x -ℤ q.x) + unsigned_abs (p.y -ℤ q.y)

-- what stands for a point where there is none
abbrev pub origin : Point
origin = record { x = pos 0; y = pos 0 }

-- the distance of the points at two places of a list
abbrev pub distance_of : List Point → ℕ → ℕ → ℕ
distance_of ps i j = distance_between (slice_index_or ps i origin) (slice_index_or ps j origin)

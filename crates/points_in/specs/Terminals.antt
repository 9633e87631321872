-- The terminals of a list of points.
use Rattle.std.specs.Prelude.{Bool, ◌&&◌, not, List, [], ◌∷◌, filter, AllPairs, ◌≢◌}
use Rattle.std.specs.Ordering.{int_eq}
use Rattle.points_in.specs.declared.point.Point.{Point}

-- Whether two points are one.
abbrev pub same_point : Point → Point → Bool
same_point p q = int_eq p.x q.x && int_eq p.y q.y

-- The points in order of first appearance: each repeat of an earlier point is left out.
abbrev pub terminals_of : List Point → List Point
terminals_of [] = []
terminals_of (p ∷ ps) = p ∷ filter (λ q. not (same_point p q)) (terminals_of ps)

-- No point stands twice in the list.
abbrev pub AreDistinct : List Point → Type 0
AreDistinct ps = AllPairs (λ p q. p ≢ q) ps

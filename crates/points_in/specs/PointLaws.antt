-- When two points are equal.
use Rattle.std.specs.Prelude.{◌≡◌}
use Rattle.std.specs.Bool.{Decides}
use Rattle.std.proofs.Common.{arith}
use Rattle.std.proofs.lemmas.Bool.Decides.{Decides-and, Decides-int_eq, Decides-like}
use Rattle.points_in.specs.declared.point.Point.{Point}
use Rattle.points_in.specs.Terminals.{same_point}

-- two points with the same coordinates are equal
pub same_coordinates : (p q : Point) → p.x ≡ q.x → p.y ≡ q.y → p ≡ q
same_coordinates p q same_x same_y = grind arith

-- the test tells whether two points are equal
pub same_point_decides : (p q : Point) → Decides (same_point p q) (p ≡ q)
same_point_decides p q =
    grind (arith, Decides-and, Decides-int_eq p.x q.x, Decides-int_eq p.y q.y, Decides-like, same_coordinates)

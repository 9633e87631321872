-- Where a point lies as another one sees it.
use Rattle.std.specs.Prelude.{◌≡◌, pos}
use Rattle.std.proofs.Common.{arith}
use Rattle.std.proofs.lemmas.Int.{ints}
use Rattle.points_in.specs.declared.point.Point.{Point}
use Rattle.full_tree.specs.declared.way.Way.{Way}
use Rattle.full_tree.specs.declared.way.Way.TheVariants.{East, North, West, South}
use Rattle.full_tree.specs.Geometry.{along, across}

-- a point lies neither ahead of itself nor beside itself
pub along-itself : (r : Point) (w : Way) → along r w r ≡ pos 0
along-itself r East = omega (arith, ints)
along-itself r North = omega (arith, ints)
along-itself r West = omega (arith, ints)
along-itself r South = omega (arith, ints)

pub across-itself : (r : Point) (w : Way) → across r w r ≡ pos 0
across-itself r East = omega (arith, ints)
across-itself r North = omega (arith, ints)
across-itself r West = omega (arith, ints)
across-itself r South = omega (arith, ints)

-- How many corners boxes have.
use Rattle.std.specs.Prelude.{◌≡◌, ◌+◌, List, [], ◌∷◌, length, flat_map}
use Rattle.std.proofs.Common.{refl, arith}
use Rattle.obstacles_in.specs.declared.rectangle.Rectangle.{Rectangle}
use Rattle.obstacles_in.specs.Obstacles.{corners_of}

-- each box has two corners
pub length-corners : (bs : List Rectangle) → length (flat_map corners_of bs) ≡ length bs + length bs
length-corners [] = refl
length-corners (b ∷ bs) = omega (arith, length-corners bs)

-- What the line of a box tells is determined by its words.
use Rattle.std.specs.Prelude.{◌≡◌}
use Rattle.std.specs.Fmt.{signed_decimal}
use Rattle.std.proofs.Common.{arith}
use Rattle.text_in.specs.Numbers.{signed_decimal_one}
use Rattle.obstacles_in.specs.declared.rectangle.Rectangle.{Rectangle}
use Rattle.obstacles_in.specs.Words.{box_words}
use Rattle.obstacles_in.specs.Faults.{HasCoordinates}

-- rectangles with the same sides
same_sides : (b c : Rectangle) → b.x1 ≡ c.x1 → b.y1 ≡ c.y1 → b.x2 ≡ c.x2 → b.y2 ≡ c.y2 → b ≡ c
same_sides b c left lower right upper = grind arith

-- coordinates
pub coordinates_one : (b c : Rectangle) → HasCoordinates b → HasCoordinates c → box_words b ≡ box_words c → b ≡ c
coordinates_one b c fb fc same =
    let x1 : signed_decimal b.x1 ≡ signed_decimal c.x1 = cc in
    let y1 : signed_decimal b.y1 ≡ signed_decimal c.y1 = cc in
    let x2 : signed_decimal b.x2 ≡ signed_decimal c.x2 = cc in
    let y2 : signed_decimal b.y2 ≡ signed_decimal c.y2 = cc in
    same_sides b c (signed_decimal_one b.x1 c.x1 fb.x1 fc.x1 x1) (signed_decimal_one b.y1 c.y1 fb.y1 fc.y1 y1)
    (signed_decimal_one b.x2 c.x2 fb.x2 fc.x2 x2) (signed_decimal_one b.y2 c.y2 fb.y2 fc.y2 y2)

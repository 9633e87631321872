-- In the width and in the height of a box is inside.
use Rattle.std.proofs.Common.{arith}
use Rattle.obstacles_in.proofs.boxes.is_inside.Goals as goal

pub returns-then-is_in_width : goal.returns-then-is_in_width
returns-then-is_in_width c =
    grind (arith, c.is_in_width.ensures.0, c.if-is_in_width.true, c.is_in_height.ensures.0, c.is_in_height.ensures.1)

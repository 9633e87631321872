use Rattle.std.proofs.Common.{refl, arith}
use Rattle.full_tree.proofs.passing.lies_on.Goals as goal

pub returns-then-is_in_width : goal.returns-then-is_in_width
returns-then-is_in_width c = grind (arith, c.if-is_in_width.ensures.0 refl)

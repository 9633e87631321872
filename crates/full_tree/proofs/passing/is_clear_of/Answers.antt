use Rattle.std.proofs.Common.{refl, arith}
use Rattle.full_tree.proofs.passing.is_clear_of.Goals as goal

pub returns-then-not-lies_on : goal.returns-then-not-lies_on
returns-then-not-lies_on c = grind arith

pub returns-then-not-is_end_of : goal.returns-then-not-is_end_of
returns-then-not-is_end_of c = grind (arith, c.if-not-lies_on.ensures.0 refl)

pub returns : goal.returns
returns c = grind (arith, c.if-not-is_end_of.ensures.0 refl, c.if-not-lies_on.ensures.0 refl)

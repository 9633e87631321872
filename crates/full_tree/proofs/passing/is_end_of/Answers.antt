use Rattle.std.proofs.Common.{arith}
use Rattle.full_tree.proofs.passing.is_end_of.Goals as goal

pub returns-else-is_same : goal.returns-else-is_same
returns-else-is_same c = grind arith

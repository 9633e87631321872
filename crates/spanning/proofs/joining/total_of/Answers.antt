use Rattle.std.proofs.Common.{arith}
use Rattle.spanning.proofs.lemmas.Totals.{total-with, total-without}
use Rattle.spanning.proofs.joining.total_of.Goals as goal
use Rattle.spanning.proofs.joining.total_of.Goals.{then-has, else-has}

pub loop-place-preserved : goal.loop-place-preserved
loop-place-preserved c = grind (arith, then-has, total-with, else-has, total-without)

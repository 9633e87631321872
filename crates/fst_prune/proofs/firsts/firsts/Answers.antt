use Rattle.std.proofs.Common.{arith}
use Rattle.fst_prune.proofs.firsts.firsts.Goals as goal

pub loop-place-init : goal.loop-place-init
loop-place-init c = grind arith

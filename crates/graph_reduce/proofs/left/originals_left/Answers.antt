use Rattle.std.proofs.Common.{arith}
use Rattle.graph_reduce.proofs.lemmas.LeftLists.{left-some, left-none}
use Rattle.graph_reduce.proofs.left.originals_left.Goals as goal

pub loop-held-preserved-in-Continue-1 : goal.loop-held-preserved-in-Continue-1
loop-held-preserved-in-Continue-1 c = grind (arith, left-some)

pub loop-held-preserved : goal.loop-held-preserved
loop-held-preserved c = grind (arith, left-none)

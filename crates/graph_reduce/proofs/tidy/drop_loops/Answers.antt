use Rattle.std.proofs.Common.{arith}
use Rattle.graph_reduce.proofs.lemmas.Clearing.{then_steps}
use Rattle.graph_reduce.proofs.tidy.drop_loops.Goals as goal

pub loop-place-preserved : goal.loop-place-preserved
loop-place-preserved c =
    grind (arith, then_steps c.args.work.now c.loop-place.work c.drop_loop.new.work c.loop-place.invariant.leads c.drop_loop.ensures.leads)

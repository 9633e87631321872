use Rattle.std.proofs.lemmas.Option.{slice_get_within}
use Rattle.std.proofs.Common.{arith}
use Rattle.graph_reduce.proofs.lemmas.Clearing.{then_steps}
use Rattle.graph_reduce.proofs.tidy.drop_parallels.Goals as goal

pub loop-place-preserved : goal.loop-place-preserved
loop-place-preserved c =
    grind (arith, then_steps c.args.work.now c.loop-place.work c.drop_parallels_at.new.work c.loop-place.invariant.leads c.drop_parallels_at.ensures.leads)

pub returns-clause-tidy : goal.returns-clause-tidy
returns-clause-tidy c = grind (arith, slice_get_within)

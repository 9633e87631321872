use Rattle.std.proofs.Common.{arith}
use Rattle.std.proofs.lemmas.Option.{slice_get_read, slice_get-get_or}
use Rattle.net_graph.specs.Joins.{slice_get-has}
use Rattle.fst_concat.proofs.lemmas.Totals.{total-in, total-out}
use Rattle.fst_concat.proofs.best.total_of.Goals as goal
use Rattle.fst_concat.proofs.best.total_of.Goals.{then-set-place, else-set-place}

pub loop-place-preserved : goal.loop-place-preserved
loop-place-preserved c =
    grind (arith, then-set-place, total-in, slice_get_read, slice_get-has, else-set-place, total-out, slice_get-get_or, c.loop-place.place, c.loop-place.invariant.sum)

-- A label that is among those after it counts no more; any other counts once.
use Rattle.std.proofs.Common.{arith}
use Rattle.std.specs.Prelude.{slice_index}
use Rattle.fst_concat.proofs.lemmas.Levels.{counts_new, counts_there}
use Rattle.fst_concat.proofs.level.touched.Goals as goal

pub loop-place-preserved-then-not-is_touched : goal.loop-place-preserved-then-not-is_touched
loop-place-preserved-then-not-is_touched c =
    grind (arith, counts_new, slice_index c.args.labels.now, c.loop-place.place, c.loop-place.count, c.is_touched.ensures, c.if-not-is_touched.true, c.loop-place.invariant.count)

pub loop-place-preserved : goal.loop-place-preserved
loop-place-preserved c =
    grind (arith, counts_there, slice_index c.args.labels.now, c.loop-place.place, c.loop-place.count, c.is_touched.ensures, c.if-not-is_touched.false, c.loop-place.invariant.count)

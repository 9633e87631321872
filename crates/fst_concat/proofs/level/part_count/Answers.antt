-- A label that is among those after it counts no more; any other counts once.
use Rattle.std.proofs.Common.{arith}
use Rattle.fst_concat.proofs.lemmas.Levels.{labels_new, labels_there}
use Rattle.fst_concat.proofs.level.part_count.Goals as goal

pub loop-place-preserved-then-not-is_among : goal.loop-place-preserved-then-not-is_among
loop-place-preserved-then-not-is_among c =
    grind (arith, labels_new, c.loop-place.place, c.loop-place.count, c.is_among.ensures, c.if-not-is_among.true, c.loop-place.invariant.count)

pub loop-place-preserved : goal.loop-place-preserved
loop-place-preserved c =
    grind (arith, labels_there, c.loop-place.place, c.loop-place.count, c.is_among.ensures, c.if-not-is_among.false, c.loop-place.invariant.count)

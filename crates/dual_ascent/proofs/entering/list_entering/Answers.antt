use Rattle.std.proofs.Common.{◌*◌, arith}
use Rattle.dual_ascent.proofs.lemmas.EnteringLemmas.{AreEntering-all}
use Rattle.dual_ascent.proofs.entering.list_entering.Goals as goal

pub loop-place-init : goal.loop-place-init
loop-place-init c = rw c.clear.ensures.items (grind arith)

pub returns : goal.returns
returns c =
    AreEntering-all c.args.costs.now c.args.members.now (64 * c.loop-place.place) c.loop-place.list.items
    (omega (arith, c.len.ensures, c.div_ceil-place-end.ensures)) c.loop-place.invariant

use Rattle.std.proofs.Common.{◌*◌}
use Rattle.dual_ascent.specs.Entering.{AreEnteringBelow}
use Rattle.dual_ascent.proofs.entering.list_entering.Given as goal

abbrev pub invariant-loop-place : goal.invariant-loop-place
invariant-loop-place l = AreEnteringBelow l.costs l.members (64 * l.place) l.list.items

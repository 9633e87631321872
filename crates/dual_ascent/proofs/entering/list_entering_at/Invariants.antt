use Rattle.std.proofs.Common.{take}
use Rattle.dual_ascent.proofs.lemmas.EnteringLemmas.{EnteringSoFar}
use Rattle.dual_ascent.proofs.entering.list_entering_at.Given as goal

abbrev pub invariant-loop-along : goal.invariant-loop-along
invariant-loop-along l = EnteringSoFar l.costs l.members l.v (take l.along-index l.along-items) l.list.items

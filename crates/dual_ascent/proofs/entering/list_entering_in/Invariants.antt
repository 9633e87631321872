use Rattle.std.proofs.Common.{◌+◌, ◌*◌}
use Rattle.dual_ascent.specs.Entering.{AreEnteringBelow}
use Rattle.dual_ascent.proofs.lemmas.MarkLemmas.{MarksMembers}
use Rattle.dual_ascent.proofs.entering.list_entering_in.Given as goal

-- the arcs that lead to vertices below v are listed, and the marks tell where the next members are
abbrev pub invariant-loop-marks : goal.invariant-loop-marks
invariant-loop-marks l = record {
  listed : AreEnteringBelow l.costs l.members l.v l.list.items;
  marks : MarksMembers l.members l.marks l.v (64 * (l.place + 1));
}

abbrev pub decreases-loop-marks : goal.decreases-loop-marks
decreases-loop-marks l = l.marks

use Rattle.std.proofs.Common.{◌≤◌}
use Rattle.std.specs.Prelude.{reverse}
use Rattle.fst_concat.specs.Chosen.{IsChosen}
use Rattle.fst_concat.specs.UnderWay.{IsUnderWay, steps_left}
use Rattle.fst_concat.proofs.trail_search.search.Given as goal

abbrev pub invariant-loop-choices : goal.invariant-loop-choices
invariant-loop-choices l = record {
  chosen : IsChosen l.points l.trees l.best.places l.best.total;
  below : l.best.total ≤ l.fn.first.total;
  under_way : IsUnderWay l.points l.trees l.allowed l.best.total l.way (reverse l.way.pending.items);
}

abbrev pub decreases-loop-choices : goal.decreases-loop-choices
decreases-loop-choices l = steps_left l.allowed l.way

use Rattle.std.specs.Prelude.{ℕ, ◌<◌, ◌≤◌, ◌-◌}
use Rattle.graph_reduce.specs.Survey.{HasPlacesOf}
use Rattle.graph_reduce.specs.Clear.{AreAlike}
use Rattle.graph_reduce.proofs.taken.alike_at.Given as goal

abbrev pub invariant-loop-n : goal.invariant-loop-n
invariant-loop-n l = record {
  places : HasPlacesOf l.work l.node l.places;
  few : l.from ≤ 4900;
  none : (k : ℕ) → k < l.from → ¬ AreAlike l.work l.place k;
}

abbrev pub decreases-loop-n : goal.decreases-loop-n
decreases-loop-n l = 4900 - l.from

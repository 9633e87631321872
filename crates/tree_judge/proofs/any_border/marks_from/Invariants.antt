use Rattle.std.proofs.Common.{◌+◌, ◌≤◌}
use Rattle.tree_judge.specs.Borders.{MarksParted}
use Rattle.tree_judge.proofs.any_border.marks_from.Given as goal

-- the edges from n on are marked
abbrev pub invariant-loop-n : goal.invariant-loop-n
invariant-loop-n l = record {
  from : l.edge ≤ l.n;
  marks : MarksParted l.g l.members l.marks l.n (l.edge + l.count);
}

abbrev pub decreases-loop-n : goal.decreases-loop-n
decreases-loop-n l = l.n

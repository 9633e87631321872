use Rattle.std.proofs.Common.{◌≤◌}
use Rattle.branch.specs.Notes.{EndsUsedUpEdge}
use Rattle.branch.proofs.saturation.ends_used_up_edge.Given as goal

-- such an edge is none of those so far
abbrev pub invariant-loop-n : goal.invariant-loop-n
invariant-loop-n l = (has : EndsUsedUpEdge l.g l.decision l.costs l.vertex) → l.n ≤ has.number

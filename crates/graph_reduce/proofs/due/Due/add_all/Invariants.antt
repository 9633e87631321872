use Rattle.std.proofs.Common.{ℕ, ◌<◌}
use Rattle.graph_reduce.specs.Due.{IsDue}
use Rattle.graph_reduce.proofs.due.Due.add_all.Given as goal

abbrev pub invariant-loop-v : goal.invariant-loop-v
invariant-loop-v l = (k : ℕ) → k < l.v → IsDue l.self k

use Rattle.std.proofs.Common.{ℕ, ◌<◌}
use Rattle.full_tree.specs.Passing.{KeepsUpTo}
use Rattle.full_tree.proofs.passing.keeps_bottlenecks.Given as goal

abbrev pub invariant-loop-last : goal.invariant-loop-last
invariant-loop-last l = (b : ℕ) → b < l.last → KeepsUpTo l.table l.stations b

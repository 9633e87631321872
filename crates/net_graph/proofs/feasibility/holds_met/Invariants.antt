use Rattle.std.proofs.Common.{ℕ, ◌≡◌, ◌<◌, true}
use Rattle.net_graph.specs.Decision.{IsMet}
use Rattle.net_graph.specs.Flags.{has}
use Rattle.net_graph.proofs.feasibility.holds_met.Given as goal

-- no vertex so far is met and in the set
abbrev pub invariant-loop-v : goal.invariant-loop-v
invariant-loop-v l = (k : ℕ) → k < l.v → IsMet l.d k → has l.members k ≡ true → ⊥

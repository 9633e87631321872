use Rattle.std.proofs.Common.{ℕ, ◌≡◌, ◌<◌, true, get_or}
use Rattle.net_graph.specs.Flags.{has}
use Rattle.net_graph.proofs.feasibility.holds_terminal.Given as goal

-- no terminal so far is in the set
abbrev pub invariant-loop-terminal : goal.invariant-loop-terminal
invariant-loop-terminal l = (k : ℕ) → k < l.terminal-index → has l.members (get_or l.terminal-items k 0) ≡ true → ⊥

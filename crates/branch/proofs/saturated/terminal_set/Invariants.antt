use Rattle.std.proofs.Common.{◌≡◌, length}
use Rattle.branch.proofs.saturated.terminal_set.Given as goal

abbrev pub invariant-loop-terminal : goal.invariant-loop-terminal
invariant-loop-terminal l = length l.set ≡ l.g.vertices

use Rattle.std.proofs.Common.{ℕ, ◌<◌, get_or}
use Rattle.net_graph.proofs.graph.first_loose_terminal.Given as goal

abbrev pub invariant-loop-place : goal.invariant-loop-place
invariant-loop-place l = (k d : ℕ) → k < l.place → get_or l.terminals k d < l.vertices

use Rattle.std.proofs.Common.{◌≡◌, length}
use Rattle.graph_calls.proofs.described.edges_of.Given as goal

-- the set keeps its size
abbrev pub invariant-loop-e : goal.invariant-loop-e
invariant-loop-e l = length l.set ≡ length l.fn.g.edges

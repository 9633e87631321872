use Rattle.std.proofs.Common.{◌≡◌, length}
use Rattle.graph_calls.proofs.described.members_of.Given as goal

-- the set keeps its size
abbrev pub invariant-loop-number : goal.invariant-loop-number
invariant-loop-number l = length l.set ≡ l.fn.g.vertices

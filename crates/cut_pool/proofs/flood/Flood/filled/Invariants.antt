use Rattle.std.proofs.Common.{◌≡◌, length}
use Rattle.cut_pool.proofs.flood.Flood.filled.Given as goal

abbrev pub invariant-loop-rank : goal.invariant-loop-rank
invariant-loop-rank l = length l.members ≡ l.graph.vertices

use Rattle.std.proofs.Common.{◌≡◌, take}
use Rattle.net_graph.specs.Network.{length_of_edges}
use Rattle.net_graph.proofs.lengths.sum_of_lengths.Given as goal

-- the sum of what the set holds of the edges so far
abbrev pub invariant-loop-n : goal.invariant-loop-n
invariant-loop-n l = l.sum ≡ length_of_edges (take l.n l.edges) l.set

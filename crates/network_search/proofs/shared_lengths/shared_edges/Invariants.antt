use Rattle.std.proofs.Common.{◌≡◌, length}
use Rattle.network_search.proofs.shared_lengths.shared_edges.Given as goal

-- the list has an edge for each so far
abbrev pub invariant-loop-number : goal.invariant-loop-number
invariant-loop-number l = record {
  end : l.number-end ≡ length l.g.edges;
  size : length l.list ≡ l.number;
}

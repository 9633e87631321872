use Rattle.std.proofs.Common.{◌≡◌, length}
use Rattle.network_search.proofs.subgraph.Subgraph.edge_set.Given as goal

abbrev pub invariant-loop-edge : goal.invariant-loop-edge
invariant-loop-edge l = record {
  size : length l.set ≡ length l.g.edges;
  end : l.edge-end ≡ length l.g.edges;
}

use Rattle.std.proofs.Common.{◌≡◌, ◌≤◌, length}
use Rattle.net_graph.specs.Network.{IsNetwork, length_of}
use Rattle.network_judge.proofs.by_shares.shortened_by_shares.Given as goal

-- the best network so far is one, and no longer than the given one
abbrev pub invariant-loop-draw : goal.invariant-loop-draw
invariant-loop-draw l = record {
  size : length l.best ≡ length l.g.edges;
  network : IsNetwork l.g l.best;
  shorter : length_of l.g l.best ≤ length_of l.g l.network;
}

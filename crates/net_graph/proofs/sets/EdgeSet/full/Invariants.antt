use Rattle.std.proofs.Common.{◌≡◌, true, length, take, replicate}
use Rattle.net_graph.proofs.sets.EdgeSet.full.Given as goal

-- the numbers so far are in the set
abbrev pub invariant-loop-n : goal.invariant-loop-n
invariant-loop-n l = record {
  size : length l.all ≡ l.size;
  so_far : take l.n l.all ≡ replicate l.n true;
}

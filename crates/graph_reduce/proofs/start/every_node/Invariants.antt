use Rattle.std.specs.Prelude.{ℕ, ◌≡◌, ◌<◌, true, length, slice_get, Some}
use Rattle.graph_reduce.proofs.start.every_node.Given as goal

abbrev pub invariant-loop-v : goal.invariant-loop-v
invariant-loop-v l = record {
  size : length l.set ≡ l.count;
  added : (k : ℕ) → k < l.v → slice_get l.set k ≡ Some true;
}

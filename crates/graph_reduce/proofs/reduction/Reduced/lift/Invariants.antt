use Rattle.std.specs.Prelude.{◌≡◌, length, drop}
use Rattle.graph_reduce.specs.Reduction.{union_of}
use Rattle.graph_reduce.proofs.reduction.Reduced.lift.Given as goal

abbrev pub invariant-loop-n : goal.invariant-loop-n
invariant-loop-n l = record {
  size : length l.lifted ≡ length l.self-inside.forced;
  lifted : l.lifted ≡ union_of (drop l.n l.self-inside.originals.items) (drop l.n l.set) l.self-inside.forced;
}

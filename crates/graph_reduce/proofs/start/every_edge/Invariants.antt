use Rattle.std.specs.Prelude.{◌≡◌, take}
use Rattle.graph_reduce.specs.State.{bundles_from}
use Rattle.graph_reduce.proofs.start.every_edge.Given as goal

abbrev pub invariant-loop-n : goal.invariant-loop-n
invariant-loop-n l = l.bundles.items ≡ bundles_from l.size 0 (take l.n l.edges)

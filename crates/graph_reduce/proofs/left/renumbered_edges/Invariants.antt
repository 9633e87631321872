use Rattle.std.specs.Prelude.{◌≡◌, take}
use Rattle.graph_reduce.specs.Left.{edges_left}
use Rattle.graph_reduce.proofs.left.renumbered_edges.Given as goal

abbrev pub invariant-loop-held : goal.invariant-loop-held
invariant-loop-held l = l.left.items ≡ edges_left l.numbers (take l.held-index l.edges)

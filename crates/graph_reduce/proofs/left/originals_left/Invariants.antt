use Rattle.std.specs.Prelude.{◌≡◌, map}
use Rattle.graph_reduce.specs.Reduction.{bundles_left}
use Rattle.graph_reduce.proofs.left.originals_left.Given as goal

abbrev pub invariant-loop-held : goal.invariant-loop-held
invariant-loop-held l = l.left.items ≡ map (λ x. x.originals) (bundles_left l.yielded)

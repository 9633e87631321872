use Rattle.std.specs.Prelude.{◌-◌}
use Rattle.std.proofs.Common.{arith}
use Rattle.std.proofs.lemmas.Option.{slice_get-get_or}
use Rattle.graph_reduce.proofs.lemmas.Lifted.{one_chosen, one_passed}
use Rattle.graph_reduce.proofs.lemmas.Unions.{length-union, union-swap}
use Rattle.graph_reduce.proofs.reduction.Reduced.lift.Goals as goal

pub loop-n-preserved-then-has : goal.loop-n-preserved-then-has
loop-n-preserved-then-has c =
    grind (arith, slice_get-get_or, c.self.invariant.sizes (c.loop-n.n - 1) (c.index.result.now), length-union, union-swap, one_chosen)

pub loop-n-preserved : goal.loop-n-preserved
loop-n-preserved c = grind (arith, one_passed)

pub returns : goal.returns
returns c = grind arith

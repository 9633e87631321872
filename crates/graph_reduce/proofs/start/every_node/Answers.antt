use Rattle.std.specs.Prelude.{true}
use Rattle.std.proofs.Common.{arith}
use Rattle.graph_reduce.proofs.lemmas.Start.{all_alike}
use Rattle.graph_reduce.proofs.start.every_node.Goals as goal

pub returns : goal.returns
returns c = all_alike true c.loop-v.set c.args.count c.loop-v.invariant.size (λ k below. c.loop-v.invariant.added k
    (omega arith))

use Rattle.std.specs.Prelude.{length, None}
use Rattle.std.proofs.Common.{arith}
use Rattle.graph_reduce.proofs.lemmas.Start.{all_alike}
use Rattle.graph_reduce.proofs.work.empty_all.Goals as goal

pub returns : goal.returns
returns c = all_alike None c.loop-held.edges (length c.args.edges.now) c.loop-held.auto.edges
    (λ k below. c.loop-held.invariant k (omega arith))

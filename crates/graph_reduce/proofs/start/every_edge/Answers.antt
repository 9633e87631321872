use Rattle.std.proofs.Common.{arith, length-take}
use Rattle.std.proofs.lemmas.List.{take_more}
use Rattle.graph_reduce.proofs.lemmas.Start.{bundles_from-push}
use Rattle.graph_reduce.proofs.start.every_edge.Goals as goal

pub loop-n-preserved : goal.loop-n-preserved
loop-n-preserved c =
    grind (arith, take_more c.args.edges.now (c.loop-n.n) (record { a = 0; b = 0; length = 0 }) c.loop-n-test.true, length-take (c.loop-n.n) c.args.edges.now, bundles_from-push)

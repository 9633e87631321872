use Rattle.std.proofs.Common.{arith}
use Rattle.graph_reduce.proofs.lemmas.Fits.{length-bundles_from}
use Rattle.graph_reduce.proofs.work.Work.of_graph.Goals as goal

pub invariant_of-result : goal.invariant_of-result
invariant_of-result c = grind (arith, length-bundles_from c.edge_count.result 0 c.edges.result.now)

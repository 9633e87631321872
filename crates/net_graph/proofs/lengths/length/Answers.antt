use Rattle.std.proofs.Common.{arith}
use Rattle.net_graph.specs.LengthLaws.{length_of-small}
use Rattle.net_graph.proofs.lengths.length.Goals as goal

pub returns-clause-small : goal.returns-clause-small
returns-clause-small c = grind (arith, length_of-small c.args.g.now c.args.set.now c.edges.ensures.graph)

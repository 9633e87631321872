-- Length and bound with the offset are numbers of 64 bits.
use Rattle.std.proofs.Common.{arith, subst}
use Rattle.net_graph.specs.Graph.{IsGraph}
use Rattle.graph_tools.proofs.LiftLaws.{bound_small, length_small}
use Rattle.graph_tools.proofs.lifting.lifted_by.Goals as goal

pub overflow_add-result : goal.overflow_add-result
overflow_add-result c =
    let graph = subst IsGraph c.graph.ensures.graph c.total-total.ensures.graph in omega (
      arith,
      length_small c.args.reduced.now c.args.answer.now graph c.requires.answer,
      c.offset-offset.ensures,
      c.requires.offset,
    )

pub overflow_add-result-2 : goal.overflow_add-result-2
overflow_add-result-2 c =
    let graph = subst IsGraph c.graph.ensures.graph c.total-total.ensures.graph in omega (
      arith,
      bound_small c.args.reduced.now c.args.answer.now graph c.requires.answer,
      c.offset-offset.ensures,
      c.requires.offset,
    )

use Rattle.std.proofs.Common.{arith}
use Rattle.graph_reduce.proofs.lemmas.NodeTaken.{leaf_with, leaf_without}
use Rattle.graph_reduce.proofs.taken.drop_leaf.Goals as goal

pub returns-in-OneEdge : goal.returns-in-OneEdge
returns-in-OneEdge c = grind (arith, leaf_with)

pub returns-in_default : goal.returns-in_default
returns-in_default c = leaf_without c.args.work.now c.drop_node.new.self c.args.v c.args.edges c.requires.applies
    c.requires.seen c.in_default.not-OneEdge c.drop_node.ensures

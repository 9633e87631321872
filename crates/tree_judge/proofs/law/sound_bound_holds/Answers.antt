use Rattle.std.proofs.Common.{arith}
use Rattle.net_graph.specs.Decision.{nothing_decided}
use Rattle.net_graph.specs.DecisionLaws.{IsDecisionFor-nothing, Agrees-nothing}
use Rattle.tree_judge.proofs.law.sound_bound_holds.Goals as goal

pub returns : goal.returns
returns c g claim network t sound other joins =
    grind (arith, c.tree_bounds_every_network.ensures g (nothing_decided g) t (IsDecisionFor-nothing g) sound.valid other (Agrees-nothing g other) joins, IsDecisionFor-nothing g, Agrees-nothing g other)

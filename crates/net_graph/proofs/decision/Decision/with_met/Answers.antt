use Rattle.std.proofs.Common.{arith}
use Rattle.std.proofs.lemmas.Result.{IfOk-weaker}
use Rattle.net_graph.specs.DecisionLaws.{IsDecisionFor-with_met}
use Rattle.net_graph.proofs.decision.Decision.with_met.Goals as goal

pub returns-clause-decision : goal.returns-clause-decision
returns-clause-decision c =
    grind (arith, IfOk-weaker, IsDecisionFor-with_met c.args._g.now c.args.self.now c.args.v c.requires.decision c.requires.undecided)

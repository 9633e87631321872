use Rattle.std.proofs.Common.{arith}
use Rattle.std.proofs.lemmas.Result.{IfOk-weaker}
use Rattle.net_graph.specs.DecisionLaws.{IsUndecided-parts, IsDecisionFor-with_inside}
use Rattle.net_graph.proofs.decision.Decision.with_inside.Goals as goal

pub with_edge-requires : goal.with_edge-requires
with_edge-requires c =
    omega (arith, (IsUndecided-parts c.args._g.now c.args.self.now c.args.e c.requires.decision c.requires.undecided).0, c.requires.decision.edges)

pub returns-clause-decision : goal.returns-clause-decision
returns-clause-decision c =
    grind (arith, IfOk-weaker, IsDecisionFor-with_inside c.args._g.now c.args.self.now c.args.e c.requires.decision c.requires.undecided)

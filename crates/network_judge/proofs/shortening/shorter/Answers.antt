use Rattle.std.proofs.Common.{subst, sym}
use Rattle.std.proofs.lemmas.Result.{IfOk-weaker}
use Rattle.net_graph.specs.Network.{IsNetwork}
use Rattle.network_judge.proofs.shortening.shorter.Goals as goal

pub returns-else-length-clause-network : goal.returns-else-length-clause-network
returns-else-length-clause-network c =
    IfOk-weaker c.copy.result _ _ (λ found same. subst (IsNetwork c.args.g.now) (sym same) c.requires.network) c.copy.ensures

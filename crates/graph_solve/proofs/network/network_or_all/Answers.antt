use Rattle.std.proofs.Common.{sym, subst}
use Rattle.std.proofs.lemmas.Result.{IfOk-weaker}
use Rattle.graph_solve.specs.JoinedLaws.{whole_set}
use Rattle.net_graph.specs.Network.{IsNetwork}
use Rattle.graph_solve.proofs.network.network_or_all.Goals as goal

pub returns-else-branch-clause-network : goal.returns-else-branch-clause-network
returns-else-branch-clause-network c = IfOk-weaker c.full.result _ _
    (λ set all. subst (IsNetwork c.args.g.now)
    (sym (whole_set c.args.g.now set c.edge_count.result all c.edge_count.ensures.count)) c.requires.joined)
    c.full.ensures

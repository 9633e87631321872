use Rattle.std.proofs.lemmas.Result.{IfOk-weaker}
use Rattle.net_graph.specs.LengthLaws.{length_of_edges-le-sum}
use Rattle.graph_solve.proofs.network.first_network.Goals as goal

pub returns-clause-length : goal.returns-clause-length
returns-clause-length c = IfOk-weaker c.shortened.result _ _
    (λ set network. length_of_edges-le-sum c.args.g.now.edges set) c.shortened.ensures.network

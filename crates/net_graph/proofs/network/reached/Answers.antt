use Rattle.std.proofs.lemmas.Result.{IfOk-weaker}
use Rattle.net_graph.proofs.lemmas.NetworkLemmas.{marks_reached}
use Rattle.net_graph.proofs.network.reached.Goals as goal

pub returns-clause-reached : goal.returns-clause-reached
returns-clause-reached c = IfOk-weaker c.reached_from.result _ _ (λ marks flags. marks_reached c.args.graph.now c.args.set.now marks c.root.result c.root.ensures.root flags) c.reached_from.ensures.reached

use Rattle.std.proofs.Common.{subst}
use Rattle.std.specs.Prelude.{IfNone}
use Rattle.net_graph.specs.Network.{IsNetwork}
use Rattle.graph_solve.specs.Task.{all_edges}
use Rattle.graph_solve.proofs.task.joined_graph.Goals as goal

pub returns-in-None-clause-task : goal.returns-in-None-clause-task
returns-in-None-clause-task c = record {
  lengths = c.in_ok-graph.ensures.lengths;
  total = c.in_ok-graph.ensures.total;
  joined = subst (λ g. IsNetwork g (all_edges g)) c.in_ok-graph.ensures.graph
      (subst (λ o. IfNone o (IsNetwork c.in_ok-graph.graph (all_edges c.in_ok-graph.graph))) c.in-None.is
      c.in_ok-first_apart_node.ensures.none);
}

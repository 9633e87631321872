-- The search over all edges found no point apart.
use Rattle.std.proofs.Common.{subst}
use Rattle.graph_solve.specs.JoinedLaws.{whole_set, joined_by_all}
use Rattle.net_graph.specs.Network.{IsNetwork}
use Rattle.graph_solve.specs.Task.{all_edges}
use Rattle.obstacle_grid.proofs.graph.joined_graph.Goals as goal

pub returns-in-None-clause-joined : goal.returns-in-None-clause-joined
returns-in-None-clause-joined c =
    joined_by_all c.in_ok-graph.graph c.in_ok-all.all c.in_ok-first_apart.field-0
    (whole_set c.in_ok-graph.graph c.in_ok-all.all c.edge_count.result c.in_ok-all.ensures c.edge_count.ensures.count)
    c.in-None.is c.in_ok-first_apart.ensures.none

pub returns-in-None-clause-task : goal.returns-in-None-clause-task
returns-in-None-clause-task c = record {
  total = c.in_ok-graph.ensures.total;
  joined = subst (λ g. IsNetwork g (all_edges g)) c.in_ok-graph.ensures.graph
      (joined_by_all c.in_ok-graph.graph c.in_ok-all.all c.in_ok-first_apart.field-0
      (whole_set c.in_ok-graph.graph c.in_ok-all.all c.edge_count.result c.in_ok-all.ensures c.edge_count.ensures.count)
      c.in-None.is
      c.in_ok-first_apart.ensures.none);
}

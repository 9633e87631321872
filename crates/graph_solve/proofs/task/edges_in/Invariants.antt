use Rattle.std.proofs.Common.{◌≡◌, length, map, take, vec_len, vec_capacity}
use Rattle.std.specs.Prelude.{All}
use Rattle.net_graph.specs.Graph.{HasEndsBelow}
use Rattle.graph_solve.specs.Task.{edge_of}
use Rattle.graph_solve.proofs.task.edges_in.Given as goal

-- the edges so far are those of the graph, and there is room for all
abbrev pub invariant-loop-n : goal.invariant-loop-n
invariant-loop-n l = record {
  end : l.n-end ≡ length l.file.edges;
  count : vec_len l.edges ≡ l.n;
  room : vec_capacity l.edges ≡ l.n-end;
  edges : l.edges.items ≡ map edge_of (take l.n l.file.edges);
  ends : All (HasEndsBelow l.file.nodes) l.edges.items;
}

use Rattle.std.proofs.Common.{◌≡◌, ◌<◌, length, map, take, vec_len, vec_capacity}
use Rattle.std.specs.Prelude.{All}
use Rattle.graph_solve.specs.Task.{vertex_of}
use Rattle.graph_solve.proofs.task.terminals_in.Given as goal

-- the vertices so far are those of the terminals, and there is room for all
abbrev pub invariant-loop-n : goal.invariant-loop-n
invariant-loop-n l = record {
  end : l.n-end ≡ length l.file.terminals;
  count : vec_len l.vertices ≡ l.n;
  room : vec_capacity l.vertices ≡ l.n-end;
  named : l.vertices.items ≡ map vertex_of (take l.n l.file.terminals);
  below : All (λ t. t < l.file.nodes) l.vertices.items;
}

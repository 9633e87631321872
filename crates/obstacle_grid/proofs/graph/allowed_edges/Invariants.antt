use Rattle.std.proofs.Common.{◌≡◌, ◌≤◌, length, take, vec_len, vec_capacity}
use Rattle.std.specs.Prelude.{filter}
use Rattle.obstacle_grid.specs.Grid.{is_allowed}
use Rattle.obstacle_grid.proofs.graph.allowed_edges.Given as goal

-- the edges passed that no box blocks, and room for the others
abbrev pub invariant-loop-edge : goal.invariant-loop-edge
invariant-loop-edge l = record {
  count : vec_len l.allowed ≤ l.edge-index;
  room : length l.edge-items ≤ vec_capacity l.allowed;
  allowed : l.allowed.items ≡ filter (is_allowed l.grid) (take l.edge-index l.edge-items);
}

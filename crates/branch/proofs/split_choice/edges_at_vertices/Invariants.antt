use Rattle.std.proofs.Common.{◌≡◌, ℕ, ◌<◌, length, get_or, take}
use Rattle.branch.specs.Meeting.{edges_at}
use Rattle.branch.proofs.split_choice.edges_at_vertices.Given as goal

-- the edges so far are counted
abbrev pub invariant-loop-e : goal.invariant-loop-e
invariant-loop-e l = record {
  size : length l.counts.items ≡ l.g.vertices;
  counts : (v : ℕ) → v < l.g.vertices → get_or l.counts.items v 0 ≡ edges_at (take l.e l.g.edges) l.network v;
}

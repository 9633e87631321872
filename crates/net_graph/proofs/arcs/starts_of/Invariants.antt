use Rattle.std.proofs.Common.{◌≡◌, ℕ, ◌+◌, ◌<◌, ◌≤◌, length, get_or, vec_len, vec_capacity}
use Rattle.net_graph.specs.Arcs.{IsSplitAt}
use Rattle.net_graph.proofs.arcs.starts_of.Given as goal

abbrev pub invariant-loop-v : goal.invariant-loop-v
invariant-loop-v l = ((v d : ℕ) → v < l.v → IsSplitAt l.arcs v (get_or l.starts.items v d)) × (vec_len l.starts ≡ l.v) × (length l.starts.items ≡ l.v) × (l.vertices + 1 ≤ vec_capacity l.starts)

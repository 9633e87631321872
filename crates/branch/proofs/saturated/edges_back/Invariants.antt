use Rattle.std.proofs.Common.{ℕ, ◌≡◌, length, slice_get, Some, true}
use Rattle.branch.specs.SaturatedArcs.{IsEdgeOfOne}
use Rattle.branch.proofs.saturated.edges_back.Given as goal

abbrev pub invariant-loop-place : goal.invariant-loop-place
invariant-loop-place l = (length l.wanted ≡ l.g.vertices) × (length l.set ≡ length l.g.edges)
    × ((n : ℕ) → slice_get l.set n ≡ Some true → IsEdgeOfOne l.arcs n)

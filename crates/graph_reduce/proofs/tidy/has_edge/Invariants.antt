use Rattle.std.proofs.Common.{ℕ, ◌<◌}
use Rattle.graph_reduce.specs.State.{Bundle, HasEdge}
use Rattle.graph_reduce.proofs.tidy.has_edge.Given as goal

abbrev pub invariant-loop-place : goal.invariant-loop-place
invariant-loop-place l = (n : ℕ) (x : Bundle) → n < l.place → ¬ HasEdge l.work n x

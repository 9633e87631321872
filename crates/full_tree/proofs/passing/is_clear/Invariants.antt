use Rattle.std.proofs.Common.{ℕ, ◌<◌}
use Rattle.full_tree.specs.Code.{named_places}
use Rattle.full_tree.specs.Passing.{IsClearOf}
use Rattle.full_tree.proofs.passing.is_clear.Given as goal

abbrev pub invariant-loop-k : goal.invariant-loop-k
invariant-loop-k l = (k : ℕ) → k < l.k → IsClearOf l.points (named_places l.code) l.piece k

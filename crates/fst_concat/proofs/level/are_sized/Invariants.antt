use Rattle.std.proofs.Common.{ℕ, ◌≡◌, ◌<◌, length}
use Rattle.std.specs.Prelude.{slice_index_or}
use Rattle.fst_concat.specs.declared.level.Level.{Level}
use Rattle.fst_concat.specs.Levels.{layer_of}
use Rattle.fst_concat.proofs.level.are_sized.Given as goal

abbrev pub invariant-loop-level : goal.invariant-loop-level
invariant-loop-level l = (k : ℕ) (d : Level) → k < l.level-index
    → length (layer_of l.points (slice_index_or l.levels k d)).labels ≡ l.points

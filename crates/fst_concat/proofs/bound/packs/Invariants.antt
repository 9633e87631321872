use Rattle.std.specs.Prelude.{slice_get}
use Rattle.std.proofs.Common.{ℕ, ◌≡◌, ◌<◌, Some}
use Rattle.full_tree.specs.declared.code.Tree.{Tree}
use Rattle.concatenation.specs.declared.choice.Choice.{Choice}
use Rattle.fst_concat.specs.Levels.{layers_of, FitsChoice}
use Rattle.fst_concat.proofs.bound.packs.Given as goal

abbrev pub invariant-loop-place : goal.invariant-loop-place
invariant-loop-place l = (k : ℕ) (choice : Choice) (tree : Tree) → k < l.place → slice_get l.choices k ≡ Some choice
    → slice_get l.trees k ≡ Some tree → FitsChoice 12 (layers_of l.points l.levels) tree choice

-- The law on partitions that pack: what they bound.
use Rattle.std.specs.Prelude.{ℕ, ◌≡◌, ◌+◌, ◌*◌, ◌≤◌, Bool, List, length}
use Rattle.full_tree.specs.declared.code.Tree.{Tree}
use Rattle.concatenation.specs.declared.choice.Choice.{Choice}
use Rattle.concatenation.specs.Choices.{taken_of, Respects}
use Rattle.concatenation.specs.Concatenation.{IsConcatenation, total_of}
use Rattle.concatenation.specs.Partitions.{Layer, bound_of, PacksLayers}

-- A concatenation joins the parts of each partition, so its further trees touch them at least as often as there are
-- parts, less one, each tree counted one time less: its total is at least what is taken and what the partitions bound.
abbrev pub PartitionBound : Type 0
PartitionBound = (n scale : ℕ) (trees : List Tree) (choices : List Choice) (layers : List Layer) (set : List Bool)
    → length choices ≡ length trees → PacksLayers n scale trees choices layers → IsConcatenation n trees set
    → Respects choices set → scale * total_of trees (taken_of choices) + bound_of layers ≤ scale * total_of trees set

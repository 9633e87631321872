-- Partitions of the terminals, with amounts, as a bound on concatenations. A partition is the list of its labels, one
-- for each terminal: terminals of one label are one part.
use Rattle.std.specs.Prelude.{ℕ, ◌≡◌, ◌+◌, ◌*◌, ◌-◌, ◌≤◌, List, [], ◌∷◌, length, map, slice_get, slice_index, Some, All}
use Rattle.full_tree.specs.declared.code.Tree.{Tree}
use Rattle.full_tree.specs.Code.{ascending_places, members_of}
use Rattle.concatenation.specs.declared.choice.Choice.{Choice}
use Rattle.concatenation.specs.declared.choice.Choice.TheVariants.{Open, Taken}

-- a partition with its amount
pub record Layer : Type 0 where
  pub labels : List ℕ
  pub amount : ℕ

-- how many parts there are
abbrev pub part_count : List ℕ → ℕ
part_count labels = length (ascending_places labels)

-- how many parts a tree touches: those of its members
abbrev pub touched_count : List ℕ → Tree → ℕ
touched_count labels tree = length (ascending_places (map (slice_index labels) (members_of tree.code)))

-- what a tree takes of all amounts: each as often as the tree touches parts, less one
abbrev pub load_of : List Layer → Tree → ℕ
load_of [] tree = 0
load_of (layer ∷ layers) tree = layer.amount * (touched_count layer.labels tree - 1) + load_of layers tree

-- what the partitions bound: each amount as often as there are parts, less one
abbrev pub bound_of : List Layer → ℕ
bound_of [] = 0
bound_of (layer ∷ layers) = layer.amount * (part_count layer.labels - 1) + bound_of layers

-- The partitions pack into the trees under choices, in a unit of which `scale` make one of length: each has a label for
-- each terminal, a tree that is taken lies in one part of each, and no tree that is open takes more than its length.
pub record PacksLayers (n scale : ℕ) (trees : List Tree) (choices : List Choice) (layers : List Layer) : Type 0 where
  pub sizes : All (λ layer. length layer.labels ≡ n) layers
  pub taken : (k : ℕ) (tree : Tree) → slice_get choices k ≡ Some Taken → slice_get trees k ≡ Some tree
      → All (λ layer. touched_count layer.labels tree ≤ 1) layers
  pub loads : (k : ℕ) (tree : Tree) → slice_get choices k ≡ Some Open → slice_get trees k ≡ Some tree
      → load_of layers tree ≤ scale * tree.length

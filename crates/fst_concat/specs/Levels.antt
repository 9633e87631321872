-- Proposed levels as layers of a bound.
use Rattle.std.specs.Prelude.{ℕ, ◌==◌, ◌||◌, ◌≤◌, ◌*◌, Bool, false, List, [], ◌∷◌, All, map, take}
use Rattle.full_tree.specs.declared.code.Tree.{Tree}
use Rattle.concatenation.specs.declared.choice.Choice.{Choice}
use Rattle.concatenation.specs.declared.choice.Choice.TheVariants.{Open, Taken, LeftOut}
use Rattle.concatenation.specs.Partitions.{Layer, load_of, touched_count}
use Rattle.fst_concat.specs.declared.level.Level.{Level}

-- a level as a layer of n labels
abbrev pub layer_of : ℕ → Level → Layer
layer_of n level = record { labels = take n level.labels; amount = level.amount }

-- levels as layers
abbrev pub layers_of : ℕ → List Level → List Layer
layers_of n levels = map (layer_of n) levels

-- whether some label is the one
abbrev pub any_label : ℕ → List ℕ → Bool
any_label label [] = false
any_label label (other ∷ others) = (other == label) || any_label label others

-- the layers leave room for a tree of a choice: where it is open it takes no more than its length, and where it is
-- taken it lies in one part of each
abbrev pub FitsChoice : ℕ → List Layer → Tree → Choice → Type 0
FitsChoice scale layers tree Open = load_of layers tree ≤ scale * tree.length
FitsChoice scale layers tree Taken = All (λ layer. touched_count layer.labels tree ≤ 1) layers
FitsChoice scale layers tree LeftOut = Unit {0}

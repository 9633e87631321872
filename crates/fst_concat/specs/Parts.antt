-- Labels of terminals as the parts that trees join them to.
use Rattle.std.specs.Prelude.{ℕ, ◌≡◌, ◌<◌, ◌==◌, Bool, true, List, [], ◌∷◌, length, map, slice_get, slice_index, Some}
use Rattle.std.specs.Prelude.{if◌then◌else◌}
use Rattle.net_graph.specs.Search.{Leads}
use Rattle.full_tree.specs.declared.code.Tree.{Tree}
use Rattle.concatenation.specs.Concatenation.{IsMember, SharesTree}

-- a label, or the other one where it is the one
abbrev pub merge_label : ℕ → ℕ → ℕ → ℕ
merge_label from to label = if label == from then to else label

-- the labels where those of one are given the other
abbrev pub merged : ℕ → ℕ → List ℕ → List ℕ
merged from to labels = map (merge_label from to) labels

-- the labels where the parts of members are joined to that of the first one
abbrev pub joined_with : ℕ → List ℕ → List ℕ → List ℕ
joined_with first [] labels = labels
joined_with first (member ∷ rest) labels =
    joined_with first rest (merged (slice_index labels member) (slice_index labels first) labels)

-- .. and where the parts of all of these members are joined
abbrev pub joined : List ℕ → List ℕ → List ℕ
joined [] labels = labels
joined (first ∷ rest) labels = joined_with first rest labels

-- Terminals of one label are joined by a chain of the set's trees, and each of the set's trees below the place joins
-- terminals of one label.
pub record ArePartsUpTo (n : ℕ) (trees : List Tree) (set : List Bool) (place : ℕ) (labels : List ℕ) : Type 0 where
  pub size : length labels ≡ n
  pub chains : (i j : ℕ) → i < n → j < n → slice_index labels i ≡ slice_index labels j
      → Leads (SharesTree trees set) i j
  pub closed : (k : ℕ) (tree : Tree) (i j : ℕ) → k < place → slice_get set k ≡ Some true
      → slice_get trees k ≡ Some tree → IsMember tree i → IsMember tree j → slice_index labels i ≡ slice_index labels j

-- The members of the trees of a list, side by side.
use Rattle.std.specs.Prelude.{ℕ, ◌≡◌, ◌<◌, ◌≤◌, List, All, length, map, slice_get, Some}
use Rattle.full_tree.specs.declared.code.Tree.{Tree}
use Rattle.full_tree.specs.Code.{members_of}

-- the members of a tree
abbrev pub tree_members : Tree → List ℕ
tree_members tree = members_of tree.code

-- these are the members of each tree, at most 8 and all below n
pub record IsListed (n : ℕ) (trees : List Tree) (listed : List (List ℕ)) : Type 0 where
  pub same : listed ≡ map tree_members trees
  pub below : (k : ℕ) (members : List ℕ) → slice_get listed k ≡ Some members → All (λ i. i < n) members
  pub few : (k : ℕ) (members : List ℕ) → slice_get listed k ≡ Some members → length members ≤ 8

-- Lists of trees whose pairs, those of two members, join terminals.
use Rattle.std.specs.Prelude.{ℕ, ◌≡◌, ◌<◌, ◌⊎◌, List, [], ◌∷◌, Contains}
use Rattle.net_graph.specs.Search.{Leads}
use Rattle.full_tree.specs.declared.code.Tree.{Tree}
use Rattle.full_tree.specs.Code.{members_of}

-- some tree of the list has just the terminals i and j as members
pub record HasPair (trees : List Tree) (i j : ℕ) : Type 0 where
  pub tree : Tree
  pub listed : Contains trees tree
  pub members : (members_of tree.code ≡ i ∷ j ∷ []) ⊎ (members_of tree.code ≡ j ∷ i ∷ [])

-- by trees of the list that have two members one comes from each of n terminals to each other one
abbrev pub PairsJoinAll : ℕ → List Tree → Type 0
PairsJoinAll n trees = (i j : ℕ) → i < n → j < n → Leads (HasPair trees) i j

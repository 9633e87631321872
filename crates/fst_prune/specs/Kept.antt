-- Which trees of a list pruning keeps. A set of the list's trees is the list of its flags.
use Rattle.std.specs.Prelude.{ℕ, ◌≡◌, ◌⊎◌, ◌<◌, ◌≤◌, Bool, true, false, List, [], ◌∷◌, length, slice_get, Some}
use Rattle.std.specs.Prelude.{if◌then◌else◌}
use Rattle.net_graph.specs.Search.{Leads}
use Rattle.full_tree.specs.declared.code.Tree.{Tree}
use Rattle.full_tree.specs.Code.{members_of}
use Rattle.concatenation.specs.Concatenation.{IsMember, SharesTree, total_of}

-- an earlier tree of the list has the members of the tree at place k
pub record IsRepeat (trees : List Tree) (k : ℕ) : Type 0 where
  pub place : ℕ
  pub earlier : Tree
  pub tree : Tree
  pub before : place < k
  pub at_earlier : slice_get trees place ≡ Some earlier
  pub at : slice_get trees k ≡ Some tree
  pub same : members_of earlier.code ≡ members_of tree.code

-- a kept pair: the tree at place k has two members and is no repeat
pub record IsKeptPair (trees : List Tree) (k : ℕ) : Type 0 where
  pub tree : Tree
  pub at : slice_get trees k ≡ Some tree
  pub two : length (members_of tree.code) ≡ 2
  pub first : ¬ IsRepeat trees k

-- The set is of kept pairs between members of a tree, which together join all its members, and is no longer than it.
pub record Replaces (trees : List Tree) (tree : Tree) (set : List Bool) : Type 0 where
  pub size : length set ≡ length trees
  pub pairs : (k : ℕ) → slice_get set k ≡ Some true → IsKeptPair trees k
  pub within : (k : ℕ) (pair : Tree) → slice_get set k ≡ Some true → slice_get trees k ≡ Some pair
      → (i : ℕ) → IsMember pair i → IsMember tree i
  pub joins : (i j : ℕ) → IsMember tree i → IsMember tree j → Leads (SharesTree trees set) i j
  pub short : total_of trees set ≤ tree.length

-- the tree at place k has three or more members, and some set of kept pairs replaces it
pub record IsReplaced (trees : List Tree) (k : ℕ) : Type 0 where
  pub tree : Tree
  pub at : slice_get trees k ≡ Some tree
  pub three : 3 ≤ length (members_of tree.code)
  pub set : List Bool
  pub replaces : Replaces trees tree set

-- pruning drops the tree at place k
abbrev pub IsDropped : List Tree → ℕ → Type 0
IsDropped trees k = IsRepeat trees k ⊎ IsReplaced trees k

-- the trees of a set, in their order
abbrev pub trees_of : List Tree → List Bool → List Tree
trees_of [] set = []
trees_of (tree ∷ trees) [] = []
trees_of (tree ∷ trees) (flag ∷ set) = if flag then tree ∷ trees_of trees set else trees_of trees set

-- the set holds just those trees that pruning doesn't drop
pub record IsKeptSet (trees : List Tree) (set : List Bool) : Type 0 where
  pub size : length set ≡ length trees
  pub keeps : (k : ℕ) → slice_get set k ≡ Some true → ¬ IsDropped trees k
  pub drops : (k : ℕ) → slice_get set k ≡ Some false → IsDropped trees k

-- the list has just the trees that pruning doesn't drop, in their order
pub record AreKeptTrees (trees kept : List Tree) : Type 0 where
  pub set : List Bool
  pub is : IsKeptSet trees set
  pub all : kept ≡ trees_of trees set

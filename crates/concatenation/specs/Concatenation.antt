-- Concatenations of full trees. A set of the trees of a list is the list of its flags: one for each tree, true where
-- the tree is in it. Terminals are the numbers below n.
use Rattle.std.specs.Prelude.{ℕ, ◌≡◌, ◌+◌, ◌<◌, ◌≤◌, Bool, true, List, [], ◌∷◌, length, replicate, slice_get, Some}
use Rattle.std.specs.Prelude.{Contains, if◌then◌else◌}
use Rattle.net_graph.specs.Search.{Leads}
use Rattle.full_tree.specs.declared.code.Tree.{Tree}
use Rattle.full_tree.specs.Code.{members_of}

-- the terminal is a member of the tree
abbrev pub IsMember : Tree → ℕ → Type 0
IsMember tree i = Contains (members_of tree.code) i

-- some tree of the set has both terminals as members
abbrev pub SharesTree : List Tree → List Bool → ℕ → ℕ → Type 0
SharesTree trees set i j = (k : ℕ) × (tree : Tree) × (slice_get set k ≡ Some true) × (slice_get trees k ≡ Some tree)
    × IsMember tree i × IsMember tree j

-- A set of the list's trees which, as sets of joined members, join all terminals: a chain of trees leads from the
-- terminal 0 to each.
pub record IsConcatenation (n : ℕ) (trees : List Tree) (set : List Bool) : Type 0 where
  pub size : length set ≡ length trees
  pub joins : (i : ℕ) → i < n → Leads (SharesTree trees set) 0 i

-- the sum of the lengths of the set's trees
abbrev pub total_of : List Tree → List Bool → ℕ
total_of [] set = 0
total_of (tree ∷ trees) [] = 0
total_of (tree ∷ trees) (flag ∷ set) = (if flag then tree.length else 0) + total_of trees set

-- the set of all trees of the list
abbrev pub all_of : List Tree → List Bool
all_of trees = replicate (length trees) true

-- no concatenation has a smaller total
abbrev pub IsLeastTotal : ℕ → List Tree → ℕ → Type 0
IsLeastTotal n trees total = (set : List Bool) → IsConcatenation n trees set → total ≤ total_of trees set

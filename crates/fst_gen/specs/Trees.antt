-- The trees of points for a greatest number of members.
use Rattle.std.specs.Prelude.{ℕ, ◌≡◌, ◌≢◌, ◌<◌, ◌≤◌, false, List, length, All, AllPairs, Contains, ◌↔◌}
use Rattle.std.specs.Ordering.{is_gt}
use Rattle.points_in.specs.declared.point.Point.{Point}
use Rattle.full_tree.specs.declared.code.Tree.{Tree}
use Rattle.full_tree.specs.declared.code.TreeCode.{TreeCode}
use Rattle.full_tree.specs.Code.{members_of}
use Rattle.full_tree.specs.Pieces.{code_length}
use Rattle.full_tree.specs.Order.{tree_cmp, IsInFileOrder}
use Rattle.full_tree.specs.Passing.{Passes}

-- a code that passes and has at most k members
pub record IsWanted (ps : List Point) (k : ℕ) (code : TreeCode) : Type 0 where
  pub passes : Passes ps code
  pub few : length (members_of code) ≤ k

-- the tree of a code
abbrev pub tree_of : List Point → TreeCode → Tree
tree_of ps code = record { length = code_length ps code; code = code }

-- a tree that isn't after another one
abbrev pub IsNotAfter : Tree → Tree → Type 0
IsNotAfter a b = is_gt (tree_cmp a b) ≡ false

-- A tree of the points for k: of the passing codes of one set of at most k members the least by length
-- and then code, with its length. (Trees of one set are compared by these two alone in file order.)
pub record IsTreeOf (ps : List Point) (k : ℕ) (tree : Tree) : Type 0 where
  pub wanted : IsWanted ps k tree.code
  pub has_length : tree.length ≡ code_length ps tree.code
  pub least : (other : TreeCode) → Passes ps other → members_of other ≡ members_of tree.code
      → IsNotAfter tree (tree_of ps other)

-- some tree of the list has the members of the code
pub record HasTreeOf (trees : List Tree) (code : TreeCode) : Type 0 where
  pub tree : Tree
  pub listed : Contains trees tree
  pub same : members_of tree.code ≡ members_of code

-- The list of all trees of the points for k, in file order: no tree is wanting, no other is there, and each
-- set of at most k members that has a passing code has its tree.
pub record AreTreesOf (ps : List Point) (k : ℕ) (trees : List Tree) : Type 0 where
  pub ordered : IsInFileOrder trees
  pub exact : (tree : Tree) → Contains trees tree ↔ IsTreeOf ps k tree
  pub each_set : (code : TreeCode) → IsWanted ps k code → HasTreeOf trees code

-- More than n sets of at most k members have passing codes: these codes are of so many sets. Each set
-- has one tree.
pub record HasMoreSets (ps : List Point) (k n : ℕ) : Type 0 where
  pub codes : List TreeCode
  pub more : n < length codes
  pub apart : AllPairs (λ a b. members_of a ≢ members_of b) codes
  pub wanted : All (IsWanted ps k) codes

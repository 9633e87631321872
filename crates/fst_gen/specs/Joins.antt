-- Lists of trees that join terminals.
use Rattle.std.specs.Prelude.{ℕ, ◌<◌, ◌≤◌, List, length, Contains}
use Rattle.points_in.specs.declared.point.Point.{Point}
use Rattle.points_in.specs.Terminals.{AreDistinct}
use Rattle.net_graph.specs.Search.{Leads}
use Rattle.full_tree.specs.declared.code.Tree.{Tree}
use Rattle.full_tree.specs.Code.{members_of}
use Rattle.full_tree.specs.Pairs.{PairsJoinAll}
use Rattle.fst_gen.specs.Trees.{AreTreesOf}

-- some tree of the list has the terminals i and j among its members
pub record SharesTree (trees : List Tree) (i j : ℕ) : Type 0 where
  pub tree : Tree
  pub listed : Contains trees tree
  pub first : Contains (members_of tree.code) i
  pub second : Contains (members_of tree.code) j

-- by trees of the list one comes from each of n terminals to each other one
abbrev pub JoinsAll : ℕ → List Tree → Type 0
JoinsAll n trees = (i j : ℕ) → i < n → j < n → Leads (SharesTree trees) i j

-- the trees of distinct points join all of them, and so do those of two members
abbrev pub TreesJoin : Type 0
TreesJoin = (ps : List Point) (k : ℕ) (trees : List Tree) → AreDistinct ps → 2 ≤ k → AreTreesOf ps k trees
    → JoinsAll (length ps) trees × PairsJoinAll (length ps) trees

-- The trees of points are those of a file.
use Rattle.std.proofs.Common.{ℕ, ◌≤◌, ◌<◌, ◌^◌, List, length, arith}
use Rattle.std.specs.List.{Contains}
use Rattle.std.proofs.lemmas.List.Elements.{recursion_from_All, All-weaker, All-contains_itself}
use Rattle.points_in.specs.declared.point.Point.{Point}
use Rattle.net_graph.specs.Graph.{total_of}
use Rattle.hanan_grid.specs.Grid.{hanan_grid_of}
use Rattle.full_tree.specs.declared.code.Tree.{Tree}
use Rattle.full_tree.specs.LengthBound.{LengthsAreWithinTheGrid}
use Rattle.fst_file.specs.Value as file
use Rattle.fst_gen.specs.Trees as gen

-- a tree of the points is one that a file holds, where their grid isn't too long
file_tree : LengthsAreWithinTheGrid → (ps : List Point) (k : ℕ) (tree : Tree) → total_of (hanan_grid_of ps) < 2 ^ 63 → gen.IsTreeOf ps k tree → file.IsTreeOf ps tree
file_tree within ps k tree short is = grind (arith, within ps tree.code is.wanted.passes.form)

-- the trees of points whose grid isn't too long are those of a file
pub file_trees : LengthsAreWithinTheGrid → (ps : List Point) (k : ℕ) (trees : List Tree) → total_of (hanan_grid_of ps) < 2 ^ 63 → gen.AreTreesOf ps k trees → length trees ≤ 20000 →
    file.AreTreesOf ps trees
file_trees within ps k trees short are few = record {
  few = few;
  trees =
      recursion_from_All (file.IsTreeOf ps) trees
      (All-weaker (λ tree. Contains trees tree) (file.IsTreeOf ps) (λ tree inside. file_tree within ps k tree short ((are.exact tree).0 inside)) trees (All-contains_itself trees));
  ordered = are.ordered;
}

-- The trees that pruning keeps are those of a file.
use Rattle.std.proofs.Common.{ℕ, ◌≤◌, ◌<◌, List, length, All, Result, Ok, Err, IfOk, arith, subst}
use Rattle.std.specs.Prelude.{Contains, slice_index_or}
use Rattle.std.proofs.lemmas.List.Elements.{recursion_from_All, All-from_recursion, All-weaker, All-contains, All-contains_itself}
use Rattle.points_in.specs.declared.point.Point.{Point}
use Rattle.full_tree.specs.declared.code.Tree.{Tree}
use Rattle.full_tree.specs.Code.{members_of, named_places}
use Rattle.full_tree.specs.MembersLaws.{Contains-from_ascending_places}
use Rattle.full_tree.specs.Order.{IsInFileOrder}
use Rattle.fst_file.specs.Value.{AreTreesOf, IsTreeOf}
use Rattle.fst_prune.specs.Firsts.{IsSmall}

-- Trees among those of a file, no more of them and in file order, are those of one.
pub kept_trees : (ps : List Point) (trees kept : List Tree) → AreTreesOf ps trees → All (Contains trees) kept →
    length kept ≤ length trees → IsInFileOrder kept → AreTreesOf ps kept
kept_trees ps trees kept are among few order = record {
  few = let most = are.few in omega (arith, few, most);
  trees =
      recursion_from_All (IsTreeOf ps) kept
      (All-weaker (Contains trees) (IsTreeOf ps)
      (λ tree inside. All-contains (IsTreeOf ps) trees tree (All-from_recursion (IsTreeOf ps) trees are.trees) inside) kept among);
  ordered = order;
}

-- The same where memory may be wanting.
pub kept_or_not : {E : Type 0} (ps : List Point) (trees : List Tree) (found : Result (List Tree) E) → AreTreesOf ps trees →
    IfOk found (All (Contains trees)) → IfOk found (λ kept. length kept ≤ length trees) → IfOk found IsInFileOrder →
    IfOk found (AreTreesOf ps)
kept_or_not ps trees (Ok kept) are among few order = kept_trees ps trees kept are among few order
kept_or_not ps trees (Err memory) are among few order = tt

-- a member of a tree is a place that its code names
named_member : (tree : Tree) (i : ℕ) → Contains (members_of tree.code) i → Contains (named_places tree.code) i
named_member tree i member = Contains-from_ascending_places (named_places tree.code) i member

-- a tree of at most 50 points has small members
small_tree : (ps : List Point) (tree : Tree) → length ps ≤ 50 → IsTreeOf ps tree → IsSmall tree
small_tree ps tree few is = record {
  few = is.form.members;
  below =
      All-weaker (Contains (members_of tree.code)) (λ i. i < 50)
      (λ i member. let (k, inside, at) = named_member tree i member in
      let low : i < length ps = subst (λ j. j < length ps) at (is.form.terminals k i inside) in omega (arith, low, few))
      (members_of tree.code) (All-contains_itself (members_of tree.code));
}

-- So are all trees of a file.
pub small_trees : (ps : List Point) (trees : List Tree) → length ps ≤ 50 → AreTreesOf ps trees → All IsSmall trees
small_trees ps trees few are =
    λ k d inside. small_tree ps (slice_index_or trees k d) few (All-from_recursion (IsTreeOf ps) trees are.trees k d inside)

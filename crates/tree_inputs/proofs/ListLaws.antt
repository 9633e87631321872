-- The trees of few members among those of more members.
use Rattle.std.proofs.Common.{ℕ, zero, suc, ◌≡◌, ◌≤◌, Bool, true, false, cond, List, [], ◌∷◌, length, All, subst, sym, ap, arith}
use Rattle.std.specs.Prelude.{Contains, filter}
use Rattle.std.specs.declared.cmp.Ordering.TheVariants.{Less}
use Rattle.std.proofs.lemmas.Bool.{leb-true, le-leb}
use Rattle.std.proofs.lemmas.List.Elements.{All-contains, All-contains_itself, All-filter, All-from_recursion, filter_passes}
use Rattle.std.proofs.lemmas.List.Kept.{AllPairs-filter}
use Rattle.lists.specs.ListLaws.{length-filter-le}
use Rattle.points_in.specs.declared.point.Point.{Point}
use Rattle.points_in.specs.Terminals.{AreDistinct}
use Rattle.full_tree.specs.declared.code.Tree.{Tree}
use Rattle.full_tree.specs.Code.{HasFewMembers, members_of}
use Rattle.full_tree.specs.Order.{tree_cmp}
use Rattle.fst_file.specs.Value.{AreTreesOf, IsTreeOf}
use Rattle.fst_gen.specs.Trees as gen
use Rattle.fst_gen.specs.Joins.{TreesJoin}
use Rattle.tree_inputs.specs.Generation.{IsTreeList}
use Rattle.tree_inputs.specs.Lists.{has_up_to, trees_up_to}
use Rattle.tree_inputs.proofs.PruningLaws.{kept_trees}

-- an item that passes a test is among those that do
first_stays : {X : Type 0} (p : X → Bool) (y : X) (ys : List X) → p y ≡ true → cond (p y) (y ∷ ys) ys ≡ y ∷ ys
first_stays p y ys passes = ap (λ b. cond b (y ∷ ys) ys) passes

later_stays : {X : Type 0} (b : Bool) (y x : X) (ys : List X) → Contains ys x → Contains (cond b (y ∷ ys) ys) x
later_stays true y x ys (k, inside, at) = (suc k, omega (arith, inside), at)
later_stays false y x ys has = has

contains_filter : {X : Type 0} (p : X → Bool) (xs : List X) (x : X) → Contains xs x → p x ≡ true → Contains (filter p xs) x
contains_filter p [] x (k, inside, at) passes = absurd (omega (arith, inside))
contains_filter p (y ∷ xs) x (zero, inside, at) passes =
    subst (λ ys. Contains ys x) (sym (first_stays p y (filter p xs) (subst (λ z. p z ≡ true) (sym at) passes))) (0, omega arith, at)
contains_filter p (y ∷ xs) x (suc k, inside, at) passes =
    later_stays (p y) y x (filter p xs) (contains_filter p xs x (k, omega (arith, inside), at) passes)

-- a tree of a list that has few members
module _ (ps : List Point) (k : ℕ) (trees : List Tree) where
  from_longer : (tree : Tree) → Contains (trees_up_to k trees) tree → Contains trees tree
  from_longer tree inside =
      All-contains (Contains trees) (trees_up_to k trees) tree (All-filter (has_up_to k) (Contains trees) trees (All-contains_itself trees)) inside

  has_few : (tree : Tree) → Contains (trees_up_to k trees) tree → length (members_of tree.code) ≤ k
  has_few tree inside =
      leb-true (length (members_of tree.code)) k (All-contains (λ t. has_up_to k t ≡ true) (trees_up_to k trees) tree (filter_passes (has_up_to k) trees) inside)

  stays : (tree : Tree) → Contains trees tree → length (members_of tree.code) ≤ k → Contains (trees_up_to k trees) tree
  stays tree inside few = contains_filter (has_up_to k) trees tree inside (le-leb (length (members_of tree.code)) k few)

  -- the trees of up to k members among those of up to m are all of them
  fewer_exact : (m : ℕ) → k ≤ m → gen.AreTreesOf ps m trees → gen.AreTreesOf ps k (trees_up_to k trees)
  fewer_exact m less are = record {
    ordered = AllPairs-filter (λ a b. tree_cmp a b ≡ Less) (has_up_to k) trees are.ordered;
    exact = λ tree. (
      λ inside. let is = (are.exact tree).0 (from_longer tree inside) in record {
        wanted = record { passes = is.wanted.passes; few = has_few tree inside };
        has_length = is.has_length;
        least = is.least;
      },
      λ is. let few = is.wanted.few in stays tree ((are.exact tree).1 (record {
        wanted = record { passes = is.wanted.passes; few = omega (arith, few, less) };
        has_length = is.has_length;
        least = is.least;
      })) few,
    );
    each_set = λ code wanted.
        let few = wanted.few in
        let has = are.each_set code (record { passes = wanted.passes; few = omega (arith, few, less) }) in record {
          tree = has.tree;
          listed = stays has.tree has.listed (subst (λ ms. length ms ≤ k) (sym has.same) few);
          same = has.same;
        };
  }

  -- they are trees of a file, where all are
  pub fewer_in_file : AreTreesOf ps trees → AreTreesOf ps (trees_up_to k trees)
  fewer_in_file are =
      kept_trees ps trees (trees_up_to k trees) are (All-filter (has_up_to k) (Contains trees) trees (All-contains_itself trees))
      (length-filter-le (has_up_to k) trees) (AllPairs-filter (λ a b. tree_cmp a b ≡ Less) (has_up_to k) trees are.ordered)

  -- they are the list of points for k, where all are the list for m
  pub fewer_list : (m : ℕ) → TreesJoin → AreDistinct ps → 2 ≤ k → k ≤ m → IsTreeList ps m trees → IsTreeList ps k (trees_up_to k trees)
  fewer_list m law distinct some less are =
      let exact = fewer_exact m less are.exact in record {
        exact = exact;
        few = let all = are.few in let less = length-filter-le (has_up_to k) trees in omega (arith, all, less);
        joins = (law ps k (trees_up_to k trees) distinct some exact).0;
      }

-- all trees of a file have few members
pub members_few : (ps : List Point) (trees : List Tree) → AreTreesOf ps trees → All (λ tree. HasFewMembers tree.code) trees
members_few ps trees are = λ k d inside. (All-from_recursion (IsTreeOf ps) trees are.trees k d inside).form.members

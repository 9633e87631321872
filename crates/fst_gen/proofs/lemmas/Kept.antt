-- A tree put in if it is the least under its word, and words of sets.
use Rattle.std.proofs.Common.{ℕ, ◌≡◌, Bool, ap, sym, subst, ◌∙◌, arith}
use Rattle.std.specs.Prelude.{Some}
use Rattle.std.specs.Bool.{MatchBool}
use Rattle.std.specs.declared.cmp.Ordering.{Ordering}
use Rattle.std.specs.declared.cmp.Ordering.TheVariants.{Less, Equal, Greater}
use Rattle.std.specs.Ordering.{nat_cmp, is_lt, is_gt, ordering_reverse}
use Rattle.std.specs.BTreeMap.{BTreeMap, get, Updates}
use Rattle.std.proofs.lemmas.Bool.Decides.{nat_tests}
use Rattle.std.proofs.lemmas.Cmp.{tied_itself}
use Rattle.full_tree.specs.declared.code.Tree.{Tree}
use Rattle.full_tree.specs.Code.{members_of}
use Rattle.full_tree.specs.Order.{tree_cmp}
use Rattle.full_tree.specs.OrderLaws.{tree_cmp_total}
use Rattle.fst_gen.specs.Trees.{IsNotAfter}
use Rattle.full_tree.specs.Word.{IsWordOf}
use Rattle.fst_gen.specs.Kept.{IsBetter, IsWorse, PutsLeast}

some_same : (x y : Tree) → Some x ≡ Some y → x ≡ y
some_same x y e = cc

-- a tree isn't after itself
pub IsNotAfter-refl : (tree : Tree) → IsNotAfter tree tree
IsNotAfter-refl tree = ap is_gt (tied_itself tree_cmp_total tree)

IsNotAfter-less : (a b : Tree) → tree_cmp a b ≡ Less → IsNotAfter a b
IsNotAfter-less a b less = ap is_gt less

-- what the order of a tree and the stored one tells
pub told_by_order : (tree old : Tree) (trees : BTreeMap ℕ Tree) (word : ℕ) (b : Bool) (o : Ordering)
    → b ≡ is_lt o → o ≡ tree_cmp tree old → get nat_cmp trees word ≡ Some old
    → MatchBool b (IsBetter tree trees word) (IsWorse tree trees word)
told_by_order tree old trees word b Less tells is at = grind arith
told_by_order tree old trees word b Equal tells is at = subst (λ v. MatchBool v (IsBetter tree trees word) (IsWorse tree trees word)) (sym tells)
    (old, at, ap is_gt (tree_cmp_total.antisymm old tree ∙ ap ordering_reverse (sym is)))
told_by_order tree old trees word b Greater tells is at = subst (λ v. MatchBool v (IsBetter tree trees word) (IsWorse tree trees word)) (sym tells)
    (old, at, ap is_gt (tree_cmp_total.antisymm old tree ∙ ap ordering_reverse (sym is)))

-- nothing is put in
pub PutsLeast-worse : (tree : Tree) (trees : BTreeMap ℕ Tree) (word : ℕ) → IsWordOf word (members_of tree.code) → IsWorse tree trees word
    → PutsLeast tree trees trees
PutsLeast-worse tree trees word is (old, at, after) = grind (arith, IsNotAfter-refl)

-- the tree is put in
pub PutsLeast-better : (tree : Tree) (old new : BTreeMap ℕ Tree) (word : ℕ) → IsWordOf word (members_of tree.code) → IsBetter tree old word
    → Updates nat_cmp old new word (Some tree) → PutsLeast tree old new
PutsLeast-better tree old new word is better updates = grind (arith, IsNotAfter-refl tree, IsNotAfter-less, nat_tests)

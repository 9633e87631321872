-- What becomes of a map of trees where a tree is put in if it is the least under its word.
use Rattle.std.specs.Prelude.{ℕ, ◌≡◌, ◌≢◌, ◌⊎◌, Some}
use Rattle.std.specs.declared.cmp.Ordering.TheVariants.{Less}
use Rattle.std.specs.Ordering.{nat_cmp}
use Rattle.std.specs.BTreeMap.{BTreeMap, get}
use Rattle.full_tree.specs.declared.code.Tree.{Tree}
use Rattle.full_tree.specs.Code.{members_of, HasFewMembers}
use Rattle.full_tree.specs.Order.{tree_cmp}
use Rattle.fst_gen.specs.Trees.{IsNotAfter}
use Rattle.full_tree.specs.Word.{IsWordOf}

abbrev pub AllHaveFewMembers : BTreeMap ℕ Tree → Type 0
AllHaveFewMembers trees = (word : ℕ) (tree : Tree) → get nat_cmp trees word ≡ Some tree → HasFewMembers tree.code

-- the tree is before the one that stands under the word, if any
abbrev pub IsBetter : Tree → BTreeMap ℕ Tree → ℕ → Type 0
IsBetter tree trees word = (old : Tree) → get nat_cmp trees word ≡ Some old → tree_cmp tree old ≡ Less

-- a tree that isn't after it stands under the word
abbrev pub IsWorse : Tree → BTreeMap ℕ Tree → ℕ → Type 0
IsWorse tree trees word = (old : Tree) × (get nat_cmp trees word ≡ Some old) × IsNotAfter old tree

-- Under the tree's word stands the least of it and of what stood there; all else is as before.
pub record PutsLeast (tree : Tree) (old new : BTreeMap ℕ Tree) : Type 0 where
  pub word : ℕ
  pub word_is : IsWordOf word (members_of tree.code)
  pub kept : Tree
  pub here : get nat_cmp new word ≡ Some kept
  pub either : (kept ≡ tree) ⊎ (get nat_cmp old word ≡ Some kept)
  pub least : IsNotAfter kept tree
  pub no_worse : (was : Tree) → get nat_cmp old word ≡ Some was → IsNotAfter kept was
  pub others : (q : ℕ) → q ≢ word → get nat_cmp new q ≡ get nat_cmp old q

-- The first trees of a list that have their members, found by the members as one word.
use Rattle.std.specs.Prelude.{ℕ, ◌≡◌, ◌<◌, List, Option, Some, slice_get, All}
use Rattle.std.specs.Ordering.{nat_cmp}
use Rattle.std.specs.BTreeMap.{BTreeMap, get}
use Rattle.full_tree.specs.declared.code.Tree.{Tree}
use Rattle.full_tree.specs.Code.{members_of, HasFewMembers}
use Rattle.full_tree.specs.Word.{IsWordOf}
use Rattle.fst_prune.specs.Kept.{IsRepeat}

-- the tree at place k has the members of the word and is no repeat
pub record IsFirst (trees : List Tree) (word k : ℕ) : Type 0 where
  pub tree : Tree
  pub at : slice_get trees k ≡ Some tree
  pub word_is : IsWordOf word (members_of tree.code)
  pub first : ¬ IsRepeat trees k

-- some place stands under the word of the members of the tree
pub record Stands (firsts : BTreeMap ℕ ℕ) (tree : Tree) : Type 0 where
  pub word : ℕ
  pub word_is : IsWordOf word (members_of tree.code)
  pub place : ℕ
  pub found : get nat_cmp firsts word ≡ Some place

-- of the first m trees, the place of the first one of each set of members stands under its word
pub record AreFirsts (trees : List Tree) (m : ℕ) (firsts : BTreeMap ℕ ℕ) : Type 0 where
  pub sound : (word k : ℕ) → get nat_cmp firsts word ≡ Some k → IsFirst trees word k
  pub complete : (k : ℕ) (tree : Tree) → k < m → slice_get trees k ≡ Some tree → Stands firsts tree

-- what stands under the word of places
pub record StandsUnder (firsts : BTreeMap ℕ ℕ) (places : List ℕ) (found : Option ℕ) : Type 0 where
  pub word : ℕ
  pub word_is : IsWordOf word places
  pub is : found ≡ get nat_cmp firsts word

-- a tree of at most 8 members, each below 50
pub record IsSmall (tree : Tree) : Type 0 where
  pub few : HasFewMembers tree.code
  pub below : All (λ i. i < 50) (members_of tree.code)

-- the tree at place k has these members
pub record HasMembers (trees : List Tree) (k : ℕ) (places : List ℕ) : Type 0 where
  pub tree : Tree
  pub at : slice_get trees k ≡ Some tree
  pub members : places ≡ members_of tree.code

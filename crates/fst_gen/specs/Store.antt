-- The trees that a generation keeps: of each set of members that it has met the least so far, by the set as a word.
use Rattle.std.specs.Prelude.{ℕ, ◌≡◌, ◌≤◌, List, Result, Ok, Err, Some}
use Rattle.std.specs.Ordering.{nat_cmp}
use Rattle.std.specs.BTreeMap.{BTreeMap, get, btree_map_len}
use Rattle.points_in.specs.declared.point.Point.{Point}
use Rattle.full_tree.specs.declared.code.Tree.{Tree}
use Rattle.full_tree.specs.declared.code.TreeCode.{TreeCode}
use Rattle.fst_gen.specs.declared.fault.GenFault.{GenFault}
use Rattle.fst_gen.specs.declared.fault.GenFault.TheVariants.{TooManyTrees, Memory}
use Rattle.full_tree.specs.Code.{members_of}
use Rattle.full_tree.specs.Pieces.{code_length}
use Rattle.fst_gen.specs.Trees.{IsWanted, IsNotAfter, tree_of, HasMoreSets}
use Rattle.full_tree.specs.Word.{IsWordOf}

-- the tree is a wanted one, and stands under the word of its members
pub record IsKept (ps : List Point) (k word : ℕ) (tree : Tree) : Type 0 where
  pub word_is : IsWordOf word (members_of tree.code)
  pub has_length : tree.length ≡ code_length ps tree.code
  pub wanted : IsWanted ps k tree.code

-- all trees of the store are so, and there are no more than 20,000
pub record IsStore (ps : List Point) (k : ℕ) (trees : BTreeMap ℕ Tree) : Type 0 where
  pub sound : (word : ℕ) (tree : Tree) → get nat_cmp trees word ≡ Some tree → IsKept ps k word tree
  pub few : btree_map_len trees ≤ 20000

-- some tree of the store has the code's members and isn't after it
pub record Covers (ps : List Point) (trees : BTreeMap ℕ Tree) (code : TreeCode) : Type 0 where
  pub word : ℕ
  pub tree : Tree
  pub word_is : IsWordOf word (members_of code)
  pub found : get nat_cmp trees word ≡ Some tree
  pub least : IsNotAfter tree (tree_of ps code)

-- The store came from an older one. What that covered, it covers, and each wanted code of one kind.
pub record Stores (ps : List Point) (k : ℕ) (Kind : TreeCode → Type 0) (old new : BTreeMap ℕ Tree) : Type 0 where
  pub store : IsStore ps k new
  pub grows : (code : TreeCode) → Covers ps old code → Covers ps new code
  pub covers : (code : TreeCode) → Kind code → IsWanted ps k code → Covers ps new code

-- what a refusal shows
abbrev pub IsCause : List Point → ℕ → GenFault → Type 0
IsCause ps k TooManyTrees = HasMoreSets ps k 20000
IsCause ps k (Memory e) = Unit {0}

-- a step of the generation stores the codes of a kind, or ends it
abbrev pub Generates : List Point → ℕ → (TreeCode → Type 0) → BTreeMap ℕ Tree → BTreeMap ℕ Tree
    → Result (Unit {0}) GenFault → Type 0
Generates ps k Kind old new (Ok done) = Stores ps k Kind old new
Generates ps k Kind old new (Err fault) = IsCause ps k fault

-- each wanted code is covered
abbrev pub CoversAll : List Point → ℕ → BTreeMap ℕ Tree → Type 0
CoversAll ps k trees = (code : TreeCode) → IsWanted ps k code → Covers ps trees code

-- Kept pairs between places, as pairs of the numbers at which the places stand.
use Rattle.std.specs.Prelude.{ℕ, ◌≡◌, ◌⊎◌, ◌<◌, ◌≤◌, ◌+◌, ◌*◌, List, [], ◌∷◌, length, slice_get, slice_index, Some}
use Rattle.spanning.specs.declared.pair.Pair.{Pair}
use Rattle.full_tree.specs.declared.code.Tree.{Tree}
use Rattle.full_tree.specs.Code.{members_of}
use Rattle.fst_prune.specs.Kept.{IsRepeat}

-- the tree at place k is a kept pair of the places that stand at a and at b
pub record IsPairOf (trees : List Tree) (places : List ℕ) (a b k : ℕ) (tree : Tree) : Type 0 where
  pub at : slice_get trees k ≡ Some tree
  pub members : members_of tree.code ≡ slice_index places a ∷ slice_index places b ∷ []
  pub first : ¬ IsRepeat trees k

-- the pair stands for the kept pair at place k
pub record StandsFor (trees : List Tree) (places : List ℕ) (pair : Pair) (k : ℕ) : Type 0 where
  pub order : pair.a < pair.b
  pub inside : pair.b < length places
  pub tree : Tree
  pub is : IsPairOf trees places pair.a pair.b k tree
  pub long : pair.length ≡ tree.length

-- a and b were looked at: b is before `upper`, or is it, and a is before `lower`
abbrev pub IsLookedAt : ℕ → ℕ → ℕ → ℕ → Type 0
IsLookedAt upper lower a b = (b < upper) ⊎ ((b ≡ upper) × (a < lower))

-- a pair of the list stands for the kept pair at place k
pub record HasPairFor (trees : List Tree) (places : List ℕ) (pairs : List Pair) (k : ℕ) : Type 0 where
  pub place : ℕ
  pub pair : Pair
  pub at : slice_get pairs place ≡ Some pair
  pub stands : StandsFor trees places pair k

-- each pair stands for a kept pair, and one does for each kept pair of places that were looked at
pub record ArePairsWithin (trees : List Tree) (places : List ℕ) (upper lower : ℕ) (pairs : List Pair) : Type 0 where
  pub sound : (x : ℕ) (pair : Pair) → slice_get pairs x ≡ Some pair → (k : ℕ) × StandsFor trees places pair k
  pub complete : (a b k : ℕ) (tree : Tree) → a < b → b < length places → IsLookedAt upper lower a b
      → IsPairOf trees places a b k tree → HasPairFor trees places pairs k
  pub few : length pairs ≤ 8 * upper + lower

-- What a search for a concatenation answers.
use Rattle.std.specs.Prelude.{ℕ, ◌≡◌, ◌<◌, ◌≤◌, Bool, true, List, All, length, slice_get, Some}
use Rattle.net_graph.specs.Members.{members_of as numbers_of}
use Rattle.net_graph.specs.Search.{Leads}
use Rattle.full_tree.specs.declared.code.Tree.{Tree}
use Rattle.full_tree.specs.Code.{members_of, HasFewMembers}
use Rattle.concatenation.specs.Concatenation.{SharesTree, IsConcatenation, IsLeastTotal, all_of, total_of}
use Rattle.concatenation.specs.Trails.{splits_of, IsSpentTrail}
use Rattle.fst_concat.specs.declared.fault.ConcatFault.{ConcatFault}
use Rattle.fst_concat.specs.declared.fault.ConcatFault.TheVariants.{Unspanned, Memory}
use Rattle.fst_concat.specs.declared.chosen.ChosenKind.{ChosenKind}
use Rattle.fst_concat.specs.declared.chosen.ChosenKind.TheVariants.{Least, Spent}

-- a tree of 2 to 8 members, all of them terminals
pub record HasMembersBelow (n : ℕ) (tree : Tree) : Type 0 where
  pub few : HasFewMembers tree.code
  pub some : 2 ≤ length (members_of tree.code)
  pub below : All (λ i. i < n) (members_of tree.code)

-- the places are those of a concatenation with the total
pub record IsChosen (n : ℕ) (trees : List Tree) (places : List ℕ) (total : ℕ) : Type 0 where
  pub set : List Bool
  pub is : places ≡ numbers_of set
  pub joins : IsConcatenation n trees set
  pub sum : total ≡ total_of trees set

-- each tree of the set has two members
abbrev pub HasPairsAlone : List Tree → List Bool → Type 0
HasPairsAlone trees set = (k : ℕ) (tree : Tree) → slice_get set k ≡ Some true → slice_get trees k ≡ Some tree
    → length (members_of tree.code) ≡ 2

-- no joining by trees of two members has a smaller total
abbrev pub IsUpToPairs : ℕ → List Tree → ℕ → Type 0
IsUpToPairs n trees total =
    (set : List Bool) → IsConcatenation n trees set → HasPairsAlone trees set → total ≤ total_of trees set

-- what the kind says: no total is smaller, or the trail has the allowed splits and is spent for the total
abbrev pub KindHolds : ℕ → List Tree → ℕ → ℕ → ChosenKind → Type 0
KindHolds n trees allowed total Least = IsLeastTotal n trees total
KindHolds n trees allowed total (Spent trail) = (splits_of trail ≡ allowed) × IsSpentTrail n trees total trail

-- the terminal is the least that no chain of the set's trees joins to the terminal 0
pub record IsFirstApart (n : ℕ) (trees : List Tree) (set : List Bool) (place : ℕ) : Type 0 where
  pub within : place < n
  pub apart : ¬ Leads (SharesTree trees set) 0 place
  pub before : (i : ℕ) → i < place → Leads (SharesTree trees set) 0 i

-- what a fault says: all trees together leave the terminal apart, and no lower one; or nothing, where memory is short
abbrev pub FaultHolds : ℕ → List Tree → ConcatFault → Type 0
FaultHolds n trees (Unspanned place) = IsFirstApart n trees (all_of trees) place
FaultHolds n trees (Memory error) = Unit {0}

-- What pruning keeps of the concatenations of a list.
use Rattle.std.specs.Prelude.{ℕ, ◌≡◌, ◌≤◌, ◌↔◌, Bool, List}
use Rattle.full_tree.specs.declared.code.Tree.{Tree}
use Rattle.full_tree.specs.Order.{IsInFileOrder}
use Rattle.full_tree.specs.Pairs.{PairsJoinAll}
use Rattle.concatenation.specs.Concatenation.{IsConcatenation, IsLeastTotal, total_of}
use Rattle.fst_prune.specs.Kept.{AreKeptTrees}

-- the list has a concatenation with such a total
pub record HasConcatenation (n : ℕ) (trees : List Tree) (Such : ℕ → Type 0) : Type 0 where
  pub set : List Bool
  pub is : IsConcatenation n trees set
  pub total : Such (total_of trees set)

-- for each concatenation of the first list there is one of the second with no greater total
abbrev pub IsNoWorse : List Tree → List Tree → Type 0
IsNoWorse trees others = (n : ℕ) (set : List Bool) → IsConcatenation n trees set
    → HasConcatenation n others (λ total. total ≤ total_of trees set)

-- .. with the same total
abbrev pub IsMatched : List Tree → List Tree → Type 0
IsMatched trees others = (n : ℕ) (set : List Bool) → IsConcatenation n trees set
    → HasConcatenation n others (λ total. total ≡ total_of trees set)

-- what no concatenation of the one list is below, none of the other is
abbrev pub HaveOneLeastTotal : List Tree → List Tree → Type 0
HaveOneLeastTotal trees others = (n total : ℕ) → IsLeastTotal n trees total ↔ IsLeastTotal n others total

-- whatever number of terminals the pairs of the first list join, those of the second join
abbrev pub PairsStillJoin : List Tree → List Tree → Type 0
PairsStillJoin trees others = (n : ℕ) → PairsJoinAll n trees → PairsJoinAll n others

-- The kept trees of a list have a concatenation no worse than each one of the list, since what is dropped is replaced
-- by kept trees that join its members at no greater length; and the list has all those of its kept trees.
pub record KeepsTotals (trees kept : List Tree) : Type 0 where
  pub no_worse : IsNoWorse trees kept
  pub matched : IsMatched kept trees
  pub least : HaveOneLeastTotal trees kept

-- pruning of lists in file order keeps the totals of their concatenations
abbrev pub PruningKeepsTotals : Type 0
PruningKeepsTotals = (trees kept : List Tree) → IsInFileOrder trees → AreKeptTrees trees kept → KeepsTotals trees kept

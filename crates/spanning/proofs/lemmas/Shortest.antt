-- The steps of a search for the shortest pair that leaves a set.
use Rattle.std.proofs.Common.{ℕ, Bool, List, Option, MatchOption}
use Rattle.spanning.specs.declared.pair.Pair.{Pair}
use Rattle.spanning.specs.Leaving.{NoneLeaves, IsShortestLeaving}

-- what the search knows once it has seen the first m pairs
abbrev pub IsBestOf : List Pair → List Bool → ℕ → Option ℕ → Type 0
IsBestOf pairs inside m best = MatchOption best (NoneLeaves pairs inside m) (IsShortestLeaving pairs inside m)

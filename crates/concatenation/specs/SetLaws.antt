-- The laws on sets of trees that hold other sets.
use Rattle.std.specs.Prelude.{ℕ, ◌≡◌, ◌≤◌, Bool, true, List, length, slice_get, Some}
use Rattle.full_tree.specs.declared.code.Tree.{Tree}
use Rattle.concatenation.specs.Concatenation.{IsConcatenation, all_of, total_of}

-- each tree of the first set is in the second
abbrev pub IsWithin : List Bool → List Bool → Type 0
IsWithin few more = (k : ℕ) → slice_get few k ≡ Some true → slice_get more k ≡ Some true

-- a set of the list's trees that holds a concatenation is one
abbrev pub MoreTreesJoin : Type 0
MoreTreesJoin = (n : ℕ) (trees : List Tree) (few more : List Bool)
    → IsWithin few more → length more ≡ length trees → IsConcatenation n trees few → IsConcatenation n trees more

-- where some set of the list's trees is a concatenation, the set of all of them is
abbrev pub AllJoin : Type 0
AllJoin = (n : ℕ) (trees : List Tree) (set : List Bool)
    → IsConcatenation n trees set → IsConcatenation n trees (all_of trees)

-- a set within another has at most its total
abbrev pub TotalsRise : Type 0
TotalsRise = (trees : List Tree) (few more : List Bool) → IsWithin few more → total_of trees few ≤ total_of trees more

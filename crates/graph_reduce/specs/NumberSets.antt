-- Ordered sets of numbers.
use Rattle.std.specs.Prelude.{ℕ, ◌≤◌, IsTrue}
use Rattle.std.specs.Ordering.{nat_cmp}
use Rattle.std.specs.BTreeSet.{BTreeSet, contains}

-- the number is in the set
abbrev pub IsIn : BTreeSet ℕ → ℕ → Type 0
IsIn set n = IsTrue (contains nat_cmp set n)

-- the number is the lowest of the set that is no lower than another number
pub record IsNextIn (set : BTreeSet ℕ) (start n : ℕ) : Type 0 where
  pub from : start ≤ n
  pub member : IsIn set n
  pub least : (k : ℕ) → start ≤ k → IsIn set k → n ≤ k

-- What is kept of the edges that were read.
use Rattle.std.specs.Prelude.{ℕ, ◌≡◌, ◌+◌, ◌<◌, Bool, true, List}
use Rattle.net_graph.specs.Flags.{has}

-- the number is one more than the greatest in the set, or 0
pub record IsNextOf (network : List Bool) (next : ℕ) : Type 0 where
  pub above : (m : ℕ) → has network m ≡ true → m < next
  pub reached : (k : ℕ) → next ≡ k + 1 → has network k ≡ true

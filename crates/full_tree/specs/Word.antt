-- A set of places as one word.
use Rattle.std.specs.Prelude.{ℕ, ◌≡◌, List, Contains}
use Rattle.std.specs.Int.{bit_at}

-- bit k of the word is 1 exactly where the set has the place k
pub record IsWordOf (word : ℕ) (places : List ℕ) : Type 0 where
  pub has : (k : ℕ) → Contains places k → bit_at word k ≡ 1
  pub only : (k : ℕ) → bit_at word k ≡ 1 → Contains places k

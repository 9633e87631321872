-- Pairs that lead out of a set of numbers, which is the list of their flags.
use Rattle.std.specs.Prelude.{ℕ, ◌≡◌, ◌<◌, ◌≤◌, Bool, true, false, not, List, slice_get, Some, if◌then◌else◌}
use Rattle.net_graph.specs.Flags.{has}
use Rattle.spanning.specs.declared.pair.Pair.{Pair}

-- both numbers of the pair are below n
pub record HasNumbersBelow (n : ℕ) (pair : Pair) : Type 0 where
  pub a : pair.a < n
  pub b : pair.b < n

-- whether just one of the pair's two numbers is in the set
abbrev pub leaves : List Bool → Pair → Bool
leaves inside pair = if has inside pair.a then not (has inside pair.b) else has inside pair.b

-- none of the first m pairs leaves the set
abbrev pub NoneLeaves : List Pair → List Bool → ℕ → Type 0
NoneLeaves pairs inside m =
    (k : ℕ) (pair : Pair) → k < m → slice_get pairs k ≡ Some pair → leaves inside pair ≡ false

-- the pair at place k leaves the set, and none of the first m pairs that do is shorter
pub record IsShortestLeaving (pairs : List Pair) (inside : List Bool) (m k : ℕ) : Type 0 where
  pub pair : Pair
  pub here : slice_get pairs k ≡ Some pair
  pub leaving : leaves inside pair ≡ true
  pub shortest : (other : ℕ) (q : Pair) → other < m → slice_get pairs other ≡ Some q →
      leaves inside q ≡ true → pair.length ≤ q.length

-- A part that grows from the number 0 by the shortest pair that leaves it (Jarník 1930, Prim 1957).
use Rattle.std.specs.Prelude.{ℕ, ◌≡◌, ◌≤◌, Bool, true, List, length, slice_get, Some}
use Rattle.net_graph.specs.Flags.{has, IsSubset}
use Rattle.net_graph.specs.Search.{Leads}
use Rattle.spanning.specs.declared.pair.Pair.{Pair}
use Rattle.spanning.specs.Joining.{Hop, JoinsBelow, total_of}

-- some set that joins holds all of the chosen pairs, and is no longer than the other set
pub record IsNoWorse (n : ℕ) (pairs : List Pair) (chosen other : List Bool) : Type 0 where
  pub set : List Bool
  pub joins : JoinsBelow n pairs set
  pub includes : IsSubset chosen set
  pub total : total_of pairs set ≤ total_of pairs other

-- The chosen pairs lead from 0 to each number of the part, and to no other; and whatever set joins, one that
-- is no longer holds all of the chosen pairs.
pub record IsPart (n : ℕ) (pairs : List Pair) (inside chosen : List Bool) : Type 0 where
  pub numbers : length inside ≡ n
  pub size : length chosen ≡ length pairs
  pub start : has inside 0 ≡ true
  pub chains : (i : ℕ) → has inside i ≡ true → Leads (Hop pairs chosen) 0 i
  pub closed : (k : ℕ) (pair : Pair) → slice_get chosen k ≡ Some true → slice_get pairs k ≡ Some pair →
      (has inside pair.a ≡ true) × (has inside pair.b ≡ true)
  pub least : (other : List Bool) → JoinsBelow n pairs other → IsNoWorse n pairs chosen other

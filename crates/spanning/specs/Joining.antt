-- Sets of pairs that join numbers. A set of pairs is the list of its flags: one for each pair, true where the
-- pair is in it.
use Rattle.std.specs.Prelude.{ℕ, ◌≡◌, ◌<◌, ◌≤◌, Bool, true, List, length, map, replicate, slice_get, Some}
use Rattle.net_graph.specs.declared.edge.Edge.{Edge}
use Rattle.net_graph.specs.Members.{members_of}
use Rattle.net_graph.specs.Network.{HasEnds, length_of_edges}
use Rattle.net_graph.specs.Search.{Leads}
use Rattle.spanning.specs.declared.pair.Pair.{Pair}
use Rattle.spanning.specs.declared.joining.Joined.{Joined}

-- a pair as an edge between its two numbers
abbrev pub edge_of : Pair → Edge
edge_of pair = record { a = pair.a; b = pair.b; length = pair.length }

-- a hop from one number to another: some pair of the set has these two, in either order
abbrev pub Hop : List Pair → List Bool → ℕ → ℕ → Type 0
Hop pairs set i j = (k : ℕ) × (pair : Pair) × (slice_get set k ≡ Some true) × (slice_get pairs k ≡ Some pair)
    × HasEnds (edge_of pair) i j

-- the set is one of these pairs, and a chain of its hops leads from 0 to each number below n
pub record JoinsBelow (n : ℕ) (pairs : List Pair) (set : List Bool) : Type 0 where
  pub size : length set ≡ length pairs
  pub chains : (i : ℕ) → i < n → Leads (Hop pairs set) 0 i

-- the sum of the lengths of the set's pairs
abbrev pub total_of : List Pair → List Bool → ℕ
total_of pairs set = length_of_edges (map edge_of pairs) set

-- the set of all pairs
abbrev pub all_of : List Pair → List Bool
all_of pairs = replicate (length pairs) true

-- the named pairs join the numbers below n, and no set of the pairs that joins them has a smaller sum
pub record IsLeastJoining (n : ℕ) (pairs : List Pair) (joined : Joined) : Type 0 where
  pub set : List Bool
  pub places : joined.places ≡ members_of set
  pub joins : JoinsBelow n pairs set
  pub total : joined.total ≡ total_of pairs set
  pub least : (other : List Bool) → JoinsBelow n pairs other → total_of pairs set ≤ total_of pairs other

-- The steps of a loop that sums the lengths of a set's edges.
use Rattle.std.proofs.Common.{ℕ, ◌≡◌, ◌+◌, ◌<◌, ◌≤◌, Bool, true, false, List, length, get_or, take, sum_by, arith}
use Rattle.std.proofs.lemmas.List.Sums.{sum_by-take-le}
use Rattle.net_graph.specs.declared.edge.Edge.{Edge}
use Rattle.net_graph.specs.Network.{length_of_edges}
use Rattle.net_graph.specs.LengthLaws.{length_of_edges-take_more, length_of_edges-le-sum}

-- an edge of the set adds its length
pub length_with_flag : (edges : List Edge) (set : List Bool) (n : ℕ) (e : Edge) → n < length edges → length edges ≡ length set →
    get_or set n false ≡ true → length_of_edges (take (n + 1) edges) set ≡ length_of_edges (take n edges) set + (get_or edges n e).length
length_with_flag edges set n e below size flag =
    rw flag at (length_of_edges-take_more edges set n e below (rw (← size) below))

-- another edge adds nothing
pub length_without_flag : (edges : List Edge) (set : List Bool) (n : ℕ) (e : Edge) → n < length edges → length edges ≡ length set →
    get_or set n false ≡ false → length_of_edges (take (n + 1) edges) set ≡ length_of_edges (take n edges) set
length_without_flag edges set n e below size flag =
    let more = rw flag at (length_of_edges-take_more edges set n e below (rw (← size) below)) in omega (arith, more)

-- the sum so far and the next edge are within the sum of all lengths
pub length_with_flag-le-sum : (edges : List Edge) (set : List Bool) (n : ℕ) (e : Edge) → n < length edges → length edges ≡ length set →
    get_or set n false ≡ true → length_of_edges (take n edges) set + (get_or edges n e).length ≤ sum_by (λ e. e.length) edges
length_with_flag-le-sum edges set n e below size flag =
    grind (arith, length_with_flag, length_of_edges-le-sum (take (n + 1) edges) set, sum_by-take-le)

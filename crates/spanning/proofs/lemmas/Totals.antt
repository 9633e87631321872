-- The steps of a loop that sums the lengths of a set's pairs.
use Rattle.std.proofs.Common.{ℕ, ◌≡◌, ◌+◌, ◌<◌, Bool, true, false, List, length, get_or, take, map, ap, arith}
use Rattle.std.proofs.lemmas.List.{length-map}
use Rattle.std.proofs.lemmas.Option.{slice_get-get_or, get_or_from_slice_get}
use Rattle.net_graph.specs.declared.edge.Edge.{Edge}
use Rattle.net_graph.specs.LengthLaws.{length_of_edges-take_more}
use Rattle.net_graph.specs.Network.{length_of_edges}
use Rattle.spanning.specs.declared.pair.Pair.{Pair}
use Rattle.spanning.specs.Joining.{edge_of}
use Rattle.spanning.specs.JoiningLaws.{slice_get-edges}

-- the sum of what the set holds of the first n pairs
abbrev pub total_so_far : List Pair → List Bool → ℕ → ℕ
total_so_far pairs set n = length_of_edges (take n (map edge_of pairs)) set

-- a pair of the set adds its length
pub total-with : (pairs : List Pair) (set : List Bool) (n : ℕ) (d : Pair) → n < length pairs →
    n < length set → get_or set n false ≡ true →
    total_so_far pairs set (n + 1) ≡ total_so_far pairs set n + (get_or pairs n d).length
total-with pairs set n d within flag_in flag =
    let here = slice_get-edges pairs n (get_or pairs n d) (slice_get-get_or pairs n d within) in
    let edge = get_or_from_slice_get (map edge_of pairs) n (edge_of (get_or pairs n d)) (edge_of d) here in
    let more = rw flag at (length_of_edges-take_more (map edge_of pairs) set n (edge_of d) (omega (arith, length-map pairs edge_of)) flag_in) in
    omega (arith, more, ap (λ (e : Edge). e.length) edge)

-- another pair adds nothing
pub total-without : (pairs : List Pair) (set : List Bool) (n : ℕ) (d : Pair) → n < length pairs →
    n < length set → get_or set n false ≡ false →
    total_so_far pairs set (n + 1) ≡ total_so_far pairs set n
total-without pairs set n d within flag_in flag =
    let more = rw flag at (length_of_edges-take_more (map edge_of pairs) set n (edge_of d) (omega (arith, length-map pairs edge_of)) flag_in) in
    omega (arith, more)

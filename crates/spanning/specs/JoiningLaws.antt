-- What hops and totals of sets of pairs come to.
use Rattle.std.specs.Prelude.{ℕ, ◌≡◌, ◌+◌, ◌<◌, ◌≤◌, Bool, true, false, List, length, map, slice_get, slice_set, Some}
use Rattle.std.proofs.Common.{ap, ◌∙◌, inl, inr, ⊎_elim, arith}
use Rattle.std.proofs.lemmas.List.{length-replicate, get_or-replicate}
use Rattle.std.proofs.lemmas.Option.{slice_get-map, slice_get_within}
use Rattle.std.specs.Option.{option_map}
use Rattle.net_graph.specs.declared.edge.Edge.{Edge}
use Rattle.net_graph.specs.Flags.{has, IsSubset}
use Rattle.net_graph.specs.Joins.{slice_get-has, has-slice_get}
use Rattle.net_graph.specs.LengthLaws.{length_of_edges-add, length_of_edges-remove, length_of_edges-within}
use Rattle.net_graph.specs.Network.{HasEnds}
use Rattle.net_graph.specs.Search.{Leads}
use Rattle.net_graph.specs.SearchLaws.{Leads-back, Leads-weaker}
use Rattle.spanning.specs.declared.pair.Pair.{Pair}
use Rattle.spanning.specs.Joining.{edge_of, Hop, JoinsBelow, total_of, all_of}

-- two numbers are the ends of an edge in either order
pub HasEnds-back : (e : Edge) (i j : ℕ) → HasEnds e i j → HasEnds e j i
HasEnds-back e i j ends = ⊎_elim (λ along. inr along) (λ against. inl against) ends

-- a hop can be taken back
pub Hop-back : (pairs : List Pair) (set : List Bool) (i j : ℕ) → Hop pairs set i j → Hop pairs set j i
Hop-back pairs set i j (k, pair, inside, at, ends) = (k, pair, inside, at, HasEnds-back (edge_of pair) i j ends)

-- .. and so can a chain of hops
pub Leads-hops_back : (pairs : List Pair) (set : List Bool) (i j : ℕ) → Leads (Hop pairs set) i j →
    Leads (Hop pairs set) j i
Leads-hops_back pairs set i j led = Leads-back (Hop pairs set) (Hop pairs set) (Hop-back pairs set) i j led

-- more pairs lead at least as far
pub Leads-hops_more : (pairs : List Pair) (small large : List Bool) → IsSubset small large →
    (i j : ℕ) → Leads (Hop pairs small) i j → Leads (Hop pairs large) i j
Leads-hops_more pairs small large within i j led =
    Leads-weaker (Hop pairs small) (Hop pairs large)
    (λ u w (k, pair, inside, at, ends). (
      k,
      pair,
      slice_get-has large k (within k (has-slice_get small k inside)),
      at,
      ends,
    )) i j led

-- each pair is in the set of all
pub all_of-has : (pairs : List Pair) (k : ℕ) → k < length pairs → has (all_of pairs) k ≡ true
all_of-has pairs k within = get_or-replicate (length pairs) k true false within

-- where some set joins, all pairs do
pub JoinsBelow-all : (n : ℕ) (pairs : List Pair) (set : List Bool) → JoinsBelow n pairs set →
    JoinsBelow n pairs (all_of pairs)
JoinsBelow-all n pairs set joins = record {
  size = length-replicate (length pairs) true;
  chains = λ i below. Leads-hops_more pairs set (all_of pairs)
      (λ k inside. all_of-has pairs k (omega (
        arith,
        slice_get_within set k true (slice_get-has set k inside),
        joins.size,
      )))
      0 i (joins.chains i below);
}

-- the edge of the pair at a place
pub slice_get-edges : (pairs : List Pair) (k : ℕ) (pair : Pair) → slice_get pairs k ≡ Some pair →
    slice_get (map edge_of pairs) k ≡ Some (edge_of pair)
slice_get-edges pairs k pair at = slice_get-map edge_of pairs k ∙ ap (option_map edge_of) at

-- a pair that is put in adds its length
pub total_of-add : (pairs : List Pair) (set : List Bool) (k : ℕ) (pair : Pair) →
    slice_get set k ≡ Some false →
    slice_get pairs k ≡ Some pair → total_of pairs (slice_set set k true) ≡ total_of pairs set + pair.length
total_of-add pairs set k pair outside at =
    length_of_edges-add (map edge_of pairs) set k (edge_of pair) outside (slice_get-edges pairs k pair at)

-- a pair that is taken out takes its length with it
pub total_of-remove : (pairs : List Pair) (set : List Bool) (k : ℕ) (pair : Pair) →
    slice_get set k ≡ Some true →
    slice_get pairs k ≡ Some pair → total_of pairs (slice_set set k false) + pair.length ≡ total_of pairs set
total_of-remove pairs set k pair inside at =
    length_of_edges-remove (map edge_of pairs) set k (edge_of pair) inside (slice_get-edges pairs k pair at)

-- a set within another has no greater sum
pub total_of-within : (pairs : List Pair) (small large : List Bool) → IsSubset small large →
    total_of pairs small ≤ total_of pairs large
total_of-within pairs small large within =
    length_of_edges-within (map edge_of pairs) small large
    (λ k inside. slice_get-has large k (within k (has-slice_get small k inside)))

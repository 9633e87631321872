-- The places that are listed for each node.
use Rattle.std.specs.Prelude.{ℕ, ◌≡◌, ◌+◌, ◌<◌, List, length, slice_set, slice_index_or}
use Rattle.std.specs.BTreeSet.{BTreeSet}
use Rattle.std.proofs.Common.{◌∙◌, inl, inr, subst, arith, length-set}
use Rattle.std.proofs.lemmas.Bool.{cases_eq}
use Rattle.std.proofs.lemmas.Option.{slice_get-get_or, same_Some}
use Rattle.net_graph.specs.EntryLaws.{slice_get-set_same, slice_get-set_other}
use Rattle.net_graph.specs.declared.edge.Edge.{Edge}
use Rattle.graph_reduce.specs.State.{State, EndsIn}
use Rattle.graph_reduce.specs.Survey.{IsListed, HasPlacesOf, AreListedTo}
use Rattle.graph_reduce.proofs.lemmas.Longer.{HoldsEdge}
use Rattle.graph_reduce.proofs.lemmas.NodeKinds.{below_end}

-- the set that is read for a node has its places
pub set_has : (s : State) (listed : List (BTreeSet ℕ)) (v : ℕ) (set : BTreeSet ℕ) →
    AreListedTo s (length s.edges) listed → v < length s.nodes → set ≡ slice_index_or listed v set →
    HasPlacesOf s v set
set_has s listed v set are below is n ends =
    grind (arith, are.listed v n (below_end s v n ends) ends, slice_get-get_or, same_Some)

-- .. and so has the one that is written
pub set_written : (s : State) (end : ℕ) (listed : List (BTreeSet ℕ)) (v : ℕ) (set : BTreeSet ℕ) →
    AreListedTo s end listed → v < length s.nodes → HasPlacesOf s v set → AreListedTo s end (slice_set listed v set)
set_written s end listed v set are below has = record {
  size = length-set listed v set ∙ are.size;
  listed = λ u n within ends. elim (cases_eq u v) [
    | inl same ↦ (
      set,
      grind (arith, slice_get-set_same),
      has n (subst (λ k. EndsIn s k n) same ends),
    )
    | inr apart ↦ (let (other, at, member) = are.listed u n within ends in
        (other, slice_get-set_other listed v u set apart ∙ at, member))
  ];
}

-- one place more
module _ (s : State) (place : ℕ) (old new : List (BTreeSet ℕ)) (are : AreListedTo s place old)
    (size : length new ≡ length old) (kept : (u n : ℕ) → IsListed old u n → IsListed new u n) where
  pub listed_edge : (e : Edge) → HoldsEdge s place e → IsListed new e.a place → IsListed new e.b place →
      AreListedTo s (place + 1) new
  listed_edge e (x, at, is) a b = grind arith

-- What holds of every state of a reduction: no terminal is listed twice, and terminals and ends of edges are nodes that
-- are left.
use Rattle.std.specs.Prelude.{ℕ, zero, suc, ◌≡◌, ◌+◌, ◌<◌, Bool, true, false, List, [], ◌∷◌, length, replicate, slice_get, slice_set, Some, All}
use Rattle.std.proofs.Common.{refl, sym, ◌∙◌, inl, inr, ⊎_elim, subst, arith}
use Rattle.std.proofs.lemmas.List.Elements.{All-contains}
use Rattle.std.proofs.lemmas.Option.{same_Some, slice_get-get_or, slice_get_within}
use Rattle.lists.specs.ListLaws.{slice_get-repeated}
use Rattle.net_graph.specs.declared.edge.Edge.{Edge}
use Rattle.net_graph.specs.EntryLaws.{slice_get-set_other}
use Rattle.net_graph.specs.Graph.{Graph, IsGraph, HasEndsBelow}
use Rattle.net_graph.specs.Network.{HasEnds}
use Rattle.graph_reduce.specs.State.{Bundle, State, HasEdge, HasNode, bundles_from, start_of}
use Rattle.graph_reduce.specs.Rules.{DropsLoop, DropsParallel, DropsLoneNode, DropsLeaf, JoinsEdges, ForcesEdge, without_edge}
use Rattle.graph_reduce.specs.Step.{Applies}
use Rattle.graph_reduce.specs.Step.Rule.{Loop}
use Rattle.graph_reduce.proofs.lemmas.JoinedPlaces.{one, found}
use Rattle.graph_reduce.proofs.lemmas.Keeping.{found_before}
use Rattle.graph_reduce.proofs.lemmas.Terminals.{In, In-from_Contains, Contains-from_In, AreDistinct, AreDistinct-distinct_of, In-distinct_of, In-moved, AreDistinct-moved}

pub record IsSound (s : State) : Type 0 where
  pub distinct : AreDistinct s.terminals
  pub terminals : (t : ℕ) → In s.terminals t → HasNode s t
  pub ends : (n : ℕ) (x : Bundle) → HasEdge s n x → HasNode s x.edge.a × HasNode s x.edge.b

-- an edge of the list, as the first state has it
pub bundle_at : (size n : ℕ) (es : List Edge) (k : ℕ) (x : Bundle) → slice_get (bundles_from size n es) k ≡ Some (Some x) →
    (slice_get es k ≡ Some x.edge) × (x.originals ≡ slice_set (replicate size false) (n + k) true)
bundle_at size n [] k x at = absurd cc
bundle_at size n (e ∷ es) zero x at = grind arith
bundle_at size n (e ∷ es) (suc k) x at = grind (arith, bundle_at size (n + 1) es k x at)

-- both ends of an edge of the list are below the bound
ends_below : (es : List Edge) (vertices k : ℕ) (e : Edge) → All (HasEndsBelow vertices) es → slice_get es k ≡ Some e →
    HasEndsBelow vertices e
ends_below es vertices k e all at =
    grind (arith, slice_get_within es k e, same_Some, slice_get-get_or es k e (slice_get_within es k e at), all k e (slice_get_within es k e at))

pub IsSound-start : (g : Graph) → IsGraph g → IsSound (start_of g)
IsSound-start g graph = record {
  distinct = AreDistinct-distinct_of g.terminals;
  terminals = λ t is. slice_get-repeated g.vertices t true (All-contains (λ v. v < g.vertices) g.terminals t graph.terminals
      (Contains-from_In g.terminals t (In-distinct_of g.terminals t is)));
  ends = λ n x at. let below = ends_below g.edges g.vertices n x.edge graph.ends
      (bundle_at (length g.edges) 0 g.edges n x at).0 in
      (slice_get-repeated g.vertices x.edge.a true below.a, slice_get-repeated g.vertices x.edge.b true below.b);
}

-- where no loop can be dropped, the other end of an edge is another node
pub no_loop : (s : State) (n : ℕ) (x : Bundle) (v u : ℕ) → ((place : ℕ) → ¬ Applies s Loop place) → HasEdge s n x →
    HasEnds x.edge v u → u ≡ v → ⊥
no_loop s n x v u none at ends is =
    let same : x.edge.a ≡ x.edge.b =
    omega arith in
    none n (without_edge s n, record { loop = x; at = at; is_loop = same; becomes = refl })

-- ---- the rules

-- a node that isn't dropped is left
left_from : (nodes : List Bool) (v u : ℕ) → (u ≡ v → ⊥) → slice_get nodes u ≡ Some true →
    slice_get (slice_set nodes v false) u ≡ Some true
left_from nodes v u apart has = slice_get-set_other nodes v u false apart ∙ has

-- the same nodes, without an edge
less : (s : State) (place : ℕ) → IsSound s → IsSound (without_edge s place)
less s place sound = record {
  distinct = sound.distinct;
  terminals = sound.terminals;
  ends = λ n x at. sound.ends n x (found_before s.edges place n x at).1;
}

pub IsSound-loop : (place : ℕ) (old new : State) → IsSound old → DropsLoop place old new → IsSound new
IsSound-loop place old new sound drops = subst IsSound (sym drops.becomes) (less old place sound)

pub IsSound-parallel : (place : ℕ) (old new : State) → IsSound old → DropsParallel place old new → IsSound new
IsSound-parallel place old new sound drops = subst IsSound (sym drops.becomes) (less old _ sound)

-- a terminal is not the node
apart_from : (s : State) (v t : ℕ) → ¬ (In s.terminals v) → In s.terminals t → t ≡ v → ⊥
apart_from s v t free is here = free (subst (In s.terminals) here is)

pub IsSound-lone_node : (v : ℕ) (old new : State) → IsSound old → DropsLoneNode v old new → IsSound new
IsSound-lone_node v old new sound drops = subst IsSound (sym drops.becomes) (record {
  distinct = sound.distinct;
  terminals = grind (arith, left_from, apart_from, Contains-from_In);
  ends = λ n x at. let both = sound.ends n x at in (
    left_from old.nodes v x.edge.a (λ is. drops.none n (x, at, inl is)) both.0,
    left_from old.nodes v x.edge.b (λ is. drops.none n (x, at, inr is)) both.1,
  );
})

pub IsSound-leaf : (v : ℕ) (old new : State) → IsSound old → DropsLeaf v old new → IsSound new
IsSound-leaf v old new sound drops = subst IsSound (sym drops.becomes) (record {
  distinct = sound.distinct;
  terminals = grind (arith, left_from, apart_from, Contains-from_In);
  ends = λ n x at. let before = found_before old.edges drops.place n x at in
      let both = sound.ends n x before.1 in (
        left_from old.nodes v x.edge.a (λ is. before.0 (drops.edge.only n (x, before.1, inl is))) both.0,
        left_from old.nodes v x.edge.b (λ is. before.0 (drops.edge.only n (x, before.1, inr is))) both.1,
      );
})

pub IsSound-joined : (v : ℕ) (old new : State) → IsSound old → (joins : JoinsEdges v old new) → (joins.u ≡ v → ⊥) →
    (joins.w ≡ v → ⊥) → IsSound new
IsSound-joined v old new sound joins u_apart w_apart = subst IsSound (sym joins.becomes) (record {
  distinct = sound.distinct;
  terminals = grind (arith, left_from, apart_from, Contains-from_In);
  ends = λ n x at. ⊎_elim
      (λ (p : (n ≡ joins.earlier) × (one v old new joins ≡ x)). grind (arith, left_from))
      (λ (p : (n ≡ joins.earlier → ⊥) × (n ≡ joins.later → ⊥) × (slice_get old.edges n ≡ Some (Some x))).
      let both = sound.ends n x p.2 in (
        left_from old.nodes v x.edge.a (λ is. ⊎_elim p.0 p.1 (joins.only n (x, p.2, inl is))) both.0,
        left_from old.nodes v x.edge.b (λ is. ⊎_elim p.0 p.1 (joins.only n (x, p.2, inr is))) both.1,
      ))
      (found v old new joins n x at);
})
  where
    Left : Bundle → Type 0
    Left x = (slice_get (slice_set old.nodes v false) x.edge.a ≡ Some true)
        × (slice_get (slice_set old.nodes v false) x.edge.b ≡ Some true)

pub IsSound-forced : (v : ℕ) (old new : State) → IsSound old → (forces : ForcesEdge v old new) →
    (forces.other ≡ v → ⊥) → IsSound new
IsSound-forced v old new sound forces apart = subst IsSound (sym forces.becomes) (record {
  distinct = AreDistinct-moved old.terminals v forces.other sound.distinct;
  terminals = grind (arith, left_from, In-moved, In-from_Contains);
  ends = λ n x at. let before = found_before old.edges forces.place n x at in
      let both = sound.ends n x before.1 in (
        left_from old.nodes v x.edge.a (λ is. before.0 (forces.edge.only n (x, before.1, inl is))) both.0,
        left_from old.nodes v x.edge.b (λ is. before.0 (forces.edge.only n (x, before.1, inr is))) both.1,
      );
})

-- The last state of a reduction and the reduced graph have the same networks.
use Rattle.std.specs.Prelude.{ℕ, zero, suc, ◌≡◌, ◌+◌, ◌<◌, Bool, true, List, [], ◌∷◌, length, map, slice_get, slice_index_or, Some, option_map}
use Rattle.std.proofs.Common.{refl, sym, ap, ◌∙◌, inl, inr, ⊎_elim, subst, arith}
use Rattle.std.proofs.lemmas.List.{length-map, get_or-map}
use Rattle.std.proofs.lemmas.List.Elements.{All-contains, Contains-get_or}
use Rattle.std.proofs.lemmas.Option.{slice_get-map, same_Some}
use Rattle.net_graph.specs.Flags.{has}
use Rattle.net_graph.specs.Graph.{root_of}
use Rattle.net_graph.specs.JoinsLaws.{Leads-links_back}
use Rattle.net_graph.specs.Network.{HasEnds, Links, Reaches, IsNetwork, length_of}
use Rattle.net_graph.specs.Search.{Leads}
use Rattle.net_graph.specs.SearchLaws.{Leads-trans}
use Rattle.graph_reduce.specs.State.{Bundle, State, HasNode}
use Rattle.graph_reduce.specs.Reduction.{Reduction, bundles_left, number_among, renumbered, reduction_of, lift_of}
use Rattle.graph_reduce.proofs.lemmas.Ending.{node_of, node_of-number, spread, gathered, spread_from, gathered_from, length_spread, length_gathered, union_of_cases, union_of_more, union_of_carried}
use Rattle.graph_reduce.proofs.lemmas.Keeping.{Lifts, value_of}
use Rattle.graph_reduce.proofs.lemmas.Soundness.{IsSound}
use Rattle.graph_reduce.proofs.lemmas.Terminals.{In, In-from_Contains, Contains-from_In}
use Rattle.graph_reduce.proofs.lemmas.Walks.{Joins, IsNet, Leads-one, Leads-mapped}

-- what is found in a mapped list is the image of what stands there
pub mapped_at : {A B : Type 0} (f : A → B) (xs : List A) (k : ℕ) (y : B) → slice_get (map f xs) k ≡ Some y →
    (x : A) × (slice_get xs k ≡ Some x) × (f x ≡ y)
mapped_at f [] k y at = absurd cc
mapped_at f (x ∷ xs) zero y at = (x, refl, same_Some (f x) y at)
mapped_at f (x ∷ xs) (suc k) y at = mapped_at f xs k y at

-- .. and the image of what is in the list is in the mapped list
In-map : (f : ℕ → ℕ) (xs : List ℕ) (v : ℕ) → In xs v → In (map f xs) (f v)
In-map f [] v is = absurd is
In-map f (x ∷ xs) v (inl is) = inl (ap f is)
In-map f (x ∷ xs) v (inr later) = inr (In-map f xs v later)

module _ (s : State) (sound : IsSound s) where
  abbrev r : Reduction
  r = reduction_of s

  abbrev number : ℕ → ℕ
  number = number_among s.nodes

  -- ---- a network of the reduced graph

  module _ (set : List Bool) (network : IsNetwork r.graph set) where
    step_back : (v w : ℕ) → Links r.graph set v w → Joins s.edges (spread s.edges set) (node_of s.nodes v) (node_of s.nodes w)
    step_back v w (k, e, inside, at, ends) =
        let (x, x_at, is) = mapped_at (λ (y : Bundle). renumbered s.nodes y.edge) (bundles_left s.edges) k e at in
        let stands = spread_from s.edges set k x x_at inside in
        let both = sound.ends stands.place x stands.at in
        record {
          place = stands.place;
          x = x;
          chosen = stands.chosen;
          at = stands.at;
          ends = by_ends x both.0 both.1 (subst (λ d. HasEnds d v w) (sym is) ends);
        }
      where
        by_ends : (x : Bundle) → HasNode s x.edge.a → HasNode s x.edge.b → HasEnds (renumbered s.nodes x.edge) v w →
            HasEnds x.edge (node_of s.nodes v) (node_of s.nodes w)
        by_ends x a_left b_left (inl is) = inl (
          sym (node_of-number s.nodes x.edge.a a_left) ∙ ap (node_of s.nodes) is.0,
          sym (node_of-number s.nodes x.edge.b b_left) ∙ ap (node_of s.nodes) is.1,
        )
        by_ends x a_left b_left (inr is) = inr (
          sym (node_of-number s.nodes x.edge.a a_left) ∙ ap (node_of s.nodes) is.0,
          sym (node_of-number s.nodes x.edge.b b_left) ∙ ap (node_of s.nodes) is.1,
        )

    reached : (t : ℕ) → In s.terminals t → Leads (Links r.graph set) (root_of r.graph) (number t)
    reached t is = All-contains (Reaches r.graph set) r.graph.terminals (number t) network
        (Contains-from_In r.graph.terminals (number t) (In-map number s.terminals t is))

    pub net_from_network : IsNet s (spread s.edges set)
    net_from_network t u first second =
        let led : Leads (Links r.graph set) (number t) (number u) =
        Leads-trans (Links r.graph set) (number t) (root_of r.graph) (number u)
        (Leads-links_back r.graph set (root_of r.graph) (number t) (reached t first)) (reached u second) in
        subst (λ p. Leads (Joins s.edges (spread s.edges set)) p u) (node_of-number s.nodes t (sound.terminals t first))
        (subst (λ q. Leads (Joins s.edges (spread s.edges set)) (node_of s.nodes (number t)) q)
        (node_of-number s.nodes u (sound.terminals u second))
        (Leads-mapped (Links r.graph set) (Joins s.edges (spread s.edges set)) (node_of s.nodes)
        (λ v w link. Leads-one (Joins s.edges (spread s.edges set)) _ _ (step_back v w link)) (number t) (number u) led))

  pub value_of_spread : (set : List Bool) → value_of s (spread s.edges set) ≡ length_of r.graph set + r.offset
  value_of_spread set = omega (arith, length_spread s.nodes s.edges set)

  pub lift_into : (set : List Bool) (e : ℕ) → has (lift_of r set) e ≡ true → Lifts s (spread s.edges set) e
  lift_into set e is = union_of_cases s.edges set s.forced e is

  pub lift_back : (set : List Bool) (e : ℕ) → Lifts s (spread s.edges set) e → has (lift_of r set) e ≡ true
  lift_back set e (inl forced) = union_of_more s.edges set s.forced e forced
  lift_back set e (inr c) = union_of_carried s.edges set s.forced e c.place c.x c.at c.chosen c.original

  -- ---- a choice that joins the terminals

  module _ (F : ℕ → Bool) (net : IsNet s F) where
    step_on : (v w : ℕ) → Joins s.edges F v w → Links r.graph (gathered s.edges F) (number v) (number w)
    step_on v w j =
        let found = gathered_from s.edges F j.place j.x j.at j.chosen in (
          found.number,
          renumbered s.nodes j.x.edge,
          found.inside,
          slice_get-map (λ (y : Bundle). renumbered s.nodes y.edge) (bundles_left s.edges) found.number
              ∙ ap (option_map (λ (y : Bundle). renumbered s.nodes y.edge)) found.at,
          ⊎_elim (λ (is : (j.x.edge.a ≡ v) × (j.x.edge.b ≡ w)). inl (ap number is.0, ap number is.1))
              (λ (is : (j.x.edge.a ≡ w) × (j.x.edge.b ≡ v)). inr (ap number is.0, ap number is.1)) j.ends,
        )

    pub network_from_net : IsNetwork r.graph (gathered s.edges F)
    network_from_net k d below =
        let within : k < length s.terminals = omega (arith, length-map s.terminals number) in
        let some : 0 < length s.terminals = omega arith in
        let t = slice_index_or s.terminals k 0 in
        let first = slice_index_or s.terminals 0 0 in
        let first_in : In s.terminals first = In-from_Contains s.terminals first (Contains-get_or s.terminals 0 0 some) in
        let t_in : In s.terminals t = In-from_Contains s.terminals t (Contains-get_or s.terminals k 0 within) in
        subst (λ p. Leads (Links r.graph (gathered s.edges F)) p (slice_index_or r.graph.terminals k d))
        (sym (get_or-map number s.terminals 0 0 0 some))
        (subst (λ q. Leads (Links r.graph (gathered s.edges F)) (number first) q)
        (sym (get_or-map number s.terminals k 0 d within))
        (Leads-mapped (Joins s.edges F) (Links r.graph (gathered s.edges F)) number
        (λ v w j. Leads-one (Links r.graph (gathered s.edges F)) (number v) (number w) (step_on v w j)) first t
        (net first t first_in t_in)))

  pub length_of_gathered : (F : ℕ → Bool) → length_of r.graph (gathered s.edges F) + r.offset ≡ value_of s F
  length_of_gathered F = omega (arith, length_gathered s.nodes s.edges F)

-- The graph and the first state of its reduction have the same networks.
use Rattle.std.specs.Prelude.{ℕ, zero, suc, ◌≡◌, ◌+◌, ◌<◌, Bool, true, false, List, [], ◌∷◌, length, replicate, slice_get, slice_set, slice_index_or, Some}
use Rattle.std.proofs.Common.{refl, sym, inl, inr, ⊎_elim, subst, arith}
use Rattle.std.proofs.lemmas.Bool.{cases_eq}
use Rattle.std.proofs.lemmas.List.{length-replicate}
use Rattle.std.proofs.lemmas.List.Elements.{All-contains, Contains-get_or}
use Rattle.std.proofs.lemmas.Option.{slice_get_within, slice_get-get_or}
use Rattle.net_graph.specs.declared.edge.Edge.{Edge}
use Rattle.net_graph.specs.EntryLaws.{slice_get-set_same, slice_get-set_other, slice_get-replicate}
use Rattle.net_graph.specs.Flags.{has}
use Rattle.net_graph.specs.Graph.{Graph, IsGraph, root_of}
use Rattle.net_graph.specs.Joins.{slice_get-has, has-slice_get}
use Rattle.net_graph.specs.JoinsLaws.{Leads-links_back}
use Rattle.net_graph.specs.Network.{Links, Reaches, IsNetwork, length_of, length_of_edges}
use Rattle.net_graph.specs.Search.{Leads}
use Rattle.net_graph.specs.SearchLaws.{Leads-trans, Leads-weaker}
use Rattle.graph_reduce.specs.State.{bundles_from, start_of}
use Rattle.graph_reduce.proofs.lemmas.Keeping.{Carries, Lifts, value_of}
use Rattle.graph_reduce.proofs.lemmas.Lengths.{part, length_in}
use Rattle.graph_reduce.proofs.lemmas.Soundness.{bundle_at}
use Rattle.graph_reduce.proofs.lemmas.Terminals.{In, In-from_Contains, Contains-from_In, In-distinct_of, In-distinct_of_from}
use Rattle.graph_reduce.proofs.lemmas.Walks.{Joins, IsNet}

-- two tests that pass together are one
pub same_test : (a b : Bool) → (a ≡ true → b ≡ true) → (b ≡ true → a ≡ true) → a ≡ b
same_test true b into back = sym (into refl)
same_test false true into back = back refl
same_test false false into back = refl

-- the place of an edge in the first state
pub bundle_from : (size n : ℕ) (es : List Edge) (k : ℕ) (e : Edge) → slice_get es k ≡ Some e →
    slice_get (bundles_from size n es) k ≡
    Some (Some (record { edge = e; originals = slice_set (replicate size false) (n + k) true }))
bundle_from size n [] k e at = absurd cc
bundle_from size n (d ∷ es) zero e at = grind arith
bundle_from size n (d ∷ es) (suc k) e at = grind (arith, bundle_from size (n + 1) es k e at)

-- a single number is in its set
single_has : (size n : ℕ) → n < size → has (slice_set (replicate size false) n true) n ≡ true
single_has size n below = has-slice_get (slice_set (replicate size false) n true) n
    (slice_get-set_same (replicate size false) n true (omega (arith, length-replicate size false)))

-- .. and no other is
pub single_is : (size n e : ℕ) → has (slice_set (replicate size false) n true) e ≡ true → e ≡ n
single_is size n e is = elim (cases_eq e n) [
  | inl here ↦ here
  | inr apart ↦
      (let found : slice_get (replicate size false) e ≡ Some true =
      grind (arith, slice_get-set_other, slice_get-has) in
      let no : false ≡ true = slice_get-replicate size e false true found in cc)
]

-- a set of the graph's edges is as long as the choice of the same places
pub length_at_start : (size n : ℕ) (es : List Edge) (set : List Bool) (F : ℕ → Bool) →
    ((k : ℕ) → k < length es → has set k ≡ F k) → length_of_edges es set ≡ length_in (bundles_from size n es) F
length_at_start size n [] set F same = refl
length_at_start size n (e ∷ es) [] F same =
    let rest = length_at_start size (n + 1) es [] (λ k. F (suc k)) (λ k below. same (suc k) (omega arith)) in
    let here : part (Some (record { edge = e; originals = slice_set (replicate size false) n true })) (F 0) ≡ 0 =
    grind arith in
    omega (arith, rest, here, no_flags es)
  where
    no_flags : (es : List Edge) → length_of_edges es [] ≡ 0
    no_flags [] = refl
    no_flags (e ∷ es) = refl
length_at_start size n (e ∷ es) (flag ∷ set) F same =
    grind (arith, length_at_start size (n + 1) es set (λ k. F (suc k)) (λ k below. same (suc k) (omega arith)))

module _ (g : Graph) (graph : IsGraph g) where
  root_in : In g.terminals (root_of g)
  root_in = In-from_Contains g.terminals (root_of g) (Contains-get_or g.terminals 0 0 graph.terminal)

  -- ---- a network of the graph

  module _ (other : List Bool) (network : IsNetwork g other) where
    step_into : (v w : ℕ) → Links g other v w → Joins (start_of g).edges (has other) v w
    step_into v w (n, e, inside, at, ends) = record {
      place = n;
      x = record { edge = e; originals = slice_set (replicate (length g.edges) false) (0 + n) true };
      chosen = has-slice_get other n inside;
      at = bundle_from (length g.edges) 0 g.edges n e at;
      ends = ends;
    }

    reached : (t : ℕ) → In (start_of g).terminals t → Leads (Links g other) (root_of g) t
    reached t is = All-contains (Reaches g other) g.terminals t network
        (Contains-from_In g.terminals t (In-distinct_of g.terminals t is))

    pub net_at_start : IsNet (start_of g) (has other)
    net_at_start t u first second = Leads-weaker (Links g other) (Joins (start_of g).edges (has other)) step_into t u
        (Leads-trans (Links g other) t (root_of g) u (Leads-links_back g other (root_of g) t (reached t first))
        (reached u second))

  pub value_at_start : (other : List Bool) → value_of (start_of g) (has other) ≡ length_of g other
  value_at_start other = omega (arith, length_at_start (length g.edges) 0 g.edges other (has other) (λ k below. refl))

  -- ---- a set that stands for what a choice does

  module _ (F : ℕ → Bool) (net : IsNet (start_of g) F) (whole : List Bool)
      (into : (e : ℕ) → has whole e ≡ true → Lifts (start_of g) F e)
      (back : (e : ℕ) → Lifts (start_of g) F e → has whole e ≡ true) where
    -- a chosen edge is in the set
    chosen_in : (n : ℕ) → n < length g.edges → F n ≡ true → has whole n ≡ true
    chosen_in n below chosen =
        let e : Edge = slice_index_or g.edges n (record { a = 0; b = 0; length = 0 }) in
        let at : slice_get g.edges n ≡ Some e = slice_get-get_or g.edges n (record { a = 0; b = 0; length = 0 }) below in
        let same : n ≡ 0 + n = omega arith in
        back n (inr (record {
          place = n;
          x = record { edge = e; originals = slice_set (replicate (length g.edges) false) (0 + n) true };
          chosen = chosen;
          at = bundle_from (length g.edges) 0 g.edges n e at;
          original = subst (λ m. has (slice_set (replicate (length g.edges) false) m true) n ≡ true) same
              (single_has (length g.edges) n below);
        }))

    in_chosen : (n : ℕ) → has whole n ≡ true → F n ≡ true
    in_chosen n is = ⊎_elim
        (λ (f : has (replicate (length g.edges) false) n ≡ true).
        let no : false ≡ true = slice_get-replicate (length g.edges) n false true
        (slice_get-has (replicate (length g.edges) false) n f) in cc)
        (λ (c : Carries (start_of g).edges F n).
        let at = bundle_at (length g.edges) 0 g.edges c.place c.x c.at in
        let here : n ≡ 0 + c.place = single_is (length g.edges) (0 + c.place) n
        (subst (λ set. has set n ≡ true) at.1 c.original) in
        subst (λ k. F k ≡ true) (let place : c.place ≡ n = omega (arith, here) in place) c.chosen)
        (into n is)

    step_out : (v w : ℕ) → Joins (start_of g).edges F v w → Links g whole v w
    step_out v w j =
        let at = bundle_at (length g.edges) 0 g.edges j.place j.x j.at in (
          j.place,
          j.x.edge,
          slice_get-has whole j.place
              (chosen_in j.place (slice_get_within g.edges j.place j.x.edge at.0) j.chosen),
          at.0,
          j.ends,
        )

    pub network_of_start : IsNetwork g whole
    network_of_start k d below =
        let t = slice_index_or g.terminals k d in
        Leads-weaker (Joins (start_of g).edges F) (Links g whole) step_out (root_of g) t
        (net (root_of g) t (In-distinct_of_from g.terminals (root_of g) root_in)
        (In-distinct_of_from g.terminals t (In-from_Contains g.terminals t (Contains-get_or g.terminals k d below))))

    pub length_of_start : length_of g whole ≡ value_of (start_of g) F
    length_of_start = omega (
      arith,
      length_at_start (length g.edges) 0 g.edges whole F
          (λ k below. same_test (has whole k) (F k) (in_chosen k) (chosen_in k below)),
    )

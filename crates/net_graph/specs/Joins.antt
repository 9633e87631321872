-- The arcs of an edge set's edges are open, and walks over them are the set's walks.
use Rattle.std.specs.Prelude.{ℕ, ◌≡◌, ◌+◌, ◌*◌, ◌/◌, ◌<◌, Bool, true, false, List, length, slice_get, Some, ◌↔◌}
use Rattle.std.proofs.Common.{refl, sym, ap, ◌∙◌, inl, inr, ⊎_elim, arith}
use Rattle.std.proofs.lemmas.Bool.{cases_lt}
use Rattle.std.proofs.lemmas.List.{get_or_past}
use Rattle.std.proofs.lemmas.Option.{slice_get-get_or, get_or_from_slice_get}
use Rattle.net_graph.specs.Flags.{has}
use Rattle.net_graph.specs.Graph.{Graph, root_of}
use Rattle.net_graph.specs.Arcs.{forward_arc, backward_arc}
use Rattle.net_graph.specs.Network.{Links, Reaches}
use Rattle.net_graph.specs.Search.{OpenStep, Leads}
use Rattle.net_graph.specs.SearchLaws.{Leads-weaker}

-- an arc is open where its edge is in the set
abbrev pub opens_edges : List Bool → ℕ → Bool
opens_edges set arc = has set (arc / 2)

-- the flag of a number that is in the set
pub slice_get-has : (set : List Bool) (n : ℕ) → has set n ≡ true → slice_get set n ≡ Some true
slice_get-has set n is =
    let within : n < length set = ⊎_elim (λ lt. lt)
    (λ past. let out : has set n ≡ false = get_or_past set n false past in absurd cc) (cases_lt n (length set)) in
    slice_get-get_or set n false within ∙ ap (λ flag. Some flag) is

-- .. and back
pub has-slice_get : (set : List Bool) (n : ℕ) → slice_get set n ≡ Some true → has set n ≡ true
has-slice_get set n is = get_or_from_slice_get set n true false is

-- an edge of the set is an open arc from each of its ends to the other
pub OpenStep-from_links : (g : Graph) (set : List Bool) (v w : ℕ) → Links g set v w →
    OpenStep g.edges (opens_edges set) v w
OpenStep-from_links g set v w (n, e, inside, at, ends) =
    let marked : has set n ≡ true = has-slice_get set n inside in
    let even : 2 * n / 2 ≡ n = omega arith in
    let odd : (2 * n + 1) / 2 ≡ n = omega arith in
    ⊎_elim (λ (along : (e.a ≡ v) × (e.b ≡ w)).
    (forward_arc n e, (n, e, at, inl refl), ap (has set) even ∙ marked, along.0, along.1))
    (λ (against : (e.a ≡ w) × (e.b ≡ v)).
    (backward_arc n e, (n, e, at, inr refl), ap (has set) odd ∙ marked, against.1, against.0)) ends

-- an open arc is an edge of the set with the arc's ends
pub Links-from_open : (g : Graph) (set : List Bool) (v w : ℕ) → OpenStep g.edges (opens_edges set) v w → Links g set v w
Links-from_open g set v w (arc, (n, e, at, way), is_open, leaves, comes) =
    let even : 2 * n / 2 ≡ n = omega arith in
    let odd : (2 * n + 1) / 2 ≡ n = omega arith in
    ⊎_elim (λ (is : arc ≡ forward_arc n e). let marked : has set n ≡ true =
    ap (has set) (sym even ∙ ap (λ x. x.number / 2) (sym is)) ∙ is_open in
    (n, e, slice_get-has set n marked, at, inl (ap (λ x. x.from) (sym is) ∙ leaves, ap (λ x. x.to) (sym is) ∙ comes)))
    (λ (is : arc ≡ backward_arc n e). let marked : has set n ≡ true =
    ap (has set) (sym odd ∙ ap (λ x. x.number / 2) (sym is)) ∙ is_open in (
      n,
      e,
      slice_get-has set n marked,
      at,
      inr (ap (λ x. x.to) (sym is) ∙ comes, ap (λ x. x.from) (sym is) ∙ leaves),
    )) way

-- the set reaches the vertices that walks over its open arcs lead to from the root
pub Reaches-iff_leads : (g : Graph) (set : List Bool) (v : ℕ) → Reaches g set v ↔
    Leads (OpenStep g.edges (opens_edges set)) (root_of g) v
Reaches-iff_leads g set v = (
  Leads-weaker (Links g set) (OpenStep g.edges (opens_edges set)) (OpenStep-from_links g set) (root_of g) v,
  Leads-weaker (OpenStep g.edges (opens_edges set)) (Links g set) (Links-from_open g set) (root_of g) v,
)

-- Whether an edge set reaches a vertex is decidable: a test over the edges, one after another, tells it.
use Rattle.std.proofs.Common.{ℕ, zero, suc, ◌≡◌, ◌⊎◌, inl, inr, ⊎_elim, Bool, true, false, ◌&&◌, ◌||◌, eqb, eq-eqb, eqb-true, List, [], ◌∷◌, slice_get, Some, refl, ap, subst, arith}
use Rattle.std.proofs.lemmas.Bool.{or_cases, or_left, or_right, and_parts, and_from, cases_Bool, both_ways}
use Rattle.std.proofs.lemmas.Option.{same_Some}
use Rattle.net_graph.specs.declared.edge.Edge.{Edge}
use Rattle.net_graph.specs.Graph.{Graph, root_of}
use Rattle.net_graph.specs.Network.{HasEnds, Reaches}
use Rattle.net_graph.specs.Search.{Leads}
use Rattle.net_graph.specs.SearchLaws.{Leads-start, Leads-more, Leads-trans, Leads-weaker, Leads-keeps}

-- some edge of the set among these has these ends
abbrev EdgeLinks : List Edge → List Bool → ℕ → ℕ → Type 0
EdgeLinks es set v w = (n : ℕ) × (e : Edge) × (slice_get set n ≡ Some true) × (slice_get es n ≡ Some e) × HasEnds e v w

-- whether the walk over e joins two vertices, where a test tells which vertices the edges behind it join
abbrev joins_over : (ℕ → ℕ → Bool) → Edge → ℕ → ℕ → Bool
joins_over joins e v w = (joins v e.a && joins e.b w) || (joins v e.b && joins e.a w)

-- whether edges of the set join two vertices: those behind the first do, or they do so to its two ends
abbrev joins : List Edge → List Bool → ℕ → ℕ → Bool
joins [] set v w = eqb v w
joins (e ∷ es) [] v w = joins es [] v w
joins (e ∷ es) (flag ∷ set) v w = joins es set v w || (flag && joins_over (joins es set) e v w)

-- a vertex is joined to itself
joins-self : (es : List Edge) (set : List Bool) (v : ℕ) → joins es set v v ≡ true
joins-self [] set v = eq-eqb v v refl
joins-self (e ∷ es) [] v = joins-self es [] v
joins-self (e ∷ es) (flag ∷ set) v = or_left _ _ (joins-self es set v)

-- what is joined to the first edge's end b is joined over it to what is joined to its end a, and the other way round
over_forward : (test : ℕ → ℕ → Bool) (e : Edge) (v w : ℕ) → test v e.a ≡ true → test e.b w ≡ true →
    joins_over test e v w ≡ true
over_forward test e v w first second = or_left _ _ (and_from _ _ first second)

over_back : (test : ℕ → ℕ → Bool) (e : Edge) (v w : ℕ) → test v e.b ≡ true → test e.a w ≡ true →
    joins_over test e v w ≡ true
over_back test e v w first second = or_right _ _ (and_from _ _ first second)

over_parts : (test : ℕ → ℕ → Bool) (e : Edge) (v w : ℕ) → joins_over test e v w ≡ true →
    ((test v e.a ≡ true) × (test e.b w ≡ true)) ⊎ ((test v e.b ≡ true) × (test e.a w ≡ true))
over_parts test e v w holds = grind (arith, test v e.a && test e.b w, and_parts, test v e.b && test e.a w, or_cases)

-- the first edge of a set that has it joins what its ends are joined to
joins-here : (e : Edge) (es : List Edge) (set : List Bool) (v w : ℕ) → joins_over (joins es set) e v w ≡ true →
    joins (e ∷ es) (true ∷ set) v w ≡ true
joins-here e es set v w over = or_right _ _ over

-- what is joined goes on over an edge
joins-step : (es : List Edge) (set : List Bool) (v u w : ℕ) → joins es set v u ≡ true → EdgeLinks es set u w →
    joins es set v w ≡ true
joins-step [] set v u w joined (n, d, in_set, at, ends) = absurd cc
joins-step (e ∷ es) [] v u w joined (n, d, in_set, at, ends) = absurd cc
joins-step (e ∷ es) (false ∷ set) v u w joined (zero, d, in_set, at, ends) = absurd cc
joins-step (e ∷ es) (true ∷ set) v u w joined (zero, d, in_set, at, ends) =
    grind (arith, or_left, over_parts, or_cases, same_Some e d, joins-here, over_forward, joins-self es set e.b, over_back, joins-self es set e.a)
joins-step (e ∷ es) (flag ∷ set) v u w joined (suc n, d, in_set, at, ends) =
    let link : EdgeLinks es set u w = (n, d, in_set, at, ends) in
    ⊎_elim
    (λ (less : joins es set v u ≡ true). or_left _ _ (joins-step es set v u w less link))
    (λ (over : (flag && joins_over (joins es set) e v u) ≡ true).
    let parts = and_parts flag (joins_over (joins es set) e v u) over in
    or_right _ _ (and_from _ _ parts.0 (⊎_elim
    (λ (first : (joins es set v e.a ≡ true) × (joins es set e.b u ≡ true)).
    over_forward (joins es set) e v w first.0 (joins-step es set e.b u w first.1 link))
    (λ (second : (joins es set v e.b ≡ true) × (joins es set e.a u ≡ true)).
    over_back (joins es set) e v w second.0 (joins-step es set e.a u w second.1 link))
    (over_parts (joins es set) e v u parts.1))))
    (or_cases _ _ joined)

-- walks over the edges behind the first are walks over all
Leads-behind : (e : Edge) (es : List Edge) (flag : Bool) (set : List Bool) (v w : ℕ) → Leads (EdgeLinks es set) v w →
    Leads (EdgeLinks (e ∷ es) (flag ∷ set)) v w
Leads-behind e es flag set v w led =
    Leads-weaker (EdgeLinks es set) (EdgeLinks (e ∷ es) (flag ∷ set))
    (λ u x (n, d, in_set, at, ends). (suc n, d, in_set, at, ends)) v w led

-- what is joined is led to
Leads-from_joins : (es : List Edge) (set : List Bool) (v w : ℕ) → joins es set v w ≡ true → Leads (EdgeLinks es set) v w
Leads-from_joins [] set v w joined = subst (Leads (EdgeLinks [] set) v) (eqb-true v w joined)
    (Leads-start (EdgeLinks [] set) v)
Leads-from_joins (e ∷ es) [] v w joined =
    Leads-weaker (EdgeLinks es []) (EdgeLinks (e ∷ es) []) (λ u x (n, d, in_set, at, ends). absurd cc) v w
    (Leads-from_joins es [] v w joined)
Leads-from_joins (e ∷ es) (flag ∷ set) v w joined =
    ⊎_elim
    (λ (less : joins es set v w ≡ true). Leads-behind e es flag set v w (Leads-from_joins es set v w less))
    (λ (over : (flag && joins_over (joins es set) e v w) ≡ true).
    let parts = and_parts flag (joins_over (joins es set) e v w) over in
    let Step = EdgeLinks (e ∷ es) (flag ∷ set) in
    let behind = λ (x y : ℕ) (less : joins es set x y ≡ true). Leads-behind e es flag set x y
    (Leads-from_joins es set x y less) in
    ⊎_elim
    (λ (first : (joins es set v e.a ≡ true) × (joins es set e.b w ≡ true)).
    Leads-trans Step v e.b w (Leads-more Step v e.a e.b (behind v e.a first.0)
    (zero, e, ap Some parts.0, refl, inl (refl, refl))) (behind e.b w first.1))
    (λ (second : (joins es set v e.b ≡ true) × (joins es set e.a w ≡ true)).
    Leads-trans Step v e.a w (Leads-more Step v e.b e.a (behind v e.b second.0)
    (zero, e, ap Some parts.0, refl, inr (refl, refl))) (behind e.a w second.1))
    (over_parts (joins es set) e v w parts.1))
    (or_cases _ _ joined)

-- a vertex is reached or it isn't
pub Reaches-decided : (g : Graph) (set : List Bool) (v : ℕ) → Reaches g set v ⊎ (Reaches g set v → ⊥)
Reaches-decided g set v =
    ⊎_elim
    (λ (yes : joins g.edges set (root_of g) v ≡ true). inl (Leads-from_joins g.edges set (root_of g) v yes))
    (λ (no : joins g.edges set (root_of g) v ≡ false). inr (λ reached.
    let yes = Leads-keeps (EdgeLinks g.edges set) (λ x. joins g.edges set (root_of g) x ≡ true) (root_of g) v
    (joins-self g.edges set (root_of g)) (λ x y joined link. joins-step g.edges set (root_of g) x y joined link)
    reached in
    both_ways _ no yes))
    (cases_Bool (joins g.edges set (root_of g) v))

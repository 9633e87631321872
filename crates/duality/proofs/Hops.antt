-- Which vertices a walk of few edges leads to from the root, and which arcs lead away from it, as tests that compute.
use Rattle.std.proofs.Common.{ℕ, zero, suc, ◌≡◌, ◌≤◌, inl, inr, ⊎_elim, Bool, true, false, not, ◌&&◌, ◌||◌, eqb, eq-eqb, eqb-true, List, [], ◌∷◌, slice_get, Some, refl, ap, ◌∙◌, subst, arith}
use Rattle.std.proofs.lemmas.Bool.{or_cases, or_left, or_right, and_parts, and_from, not-true, both_ways, cases_Bool, cases_lt}
use Rattle.std.proofs.lemmas.Option.{same_Some}
use Rattle.net_graph.specs.declared.edge.Edge.{Edge}
use Rattle.net_graph.specs.Graph.{Graph, root_of}
use Rattle.net_graph.specs.Network.{HasEnds, Links, Walk, Reaches}

-- the edge joins the vertex to one that passes the test
abbrev pub joins : (ℕ → Bool) → Edge → ℕ → Bool
joins near e v = (eqb e.a v && near e.b) || (eqb e.b v && near e.a)

-- an edge of the set joins the vertex to one that passes the test
abbrev pub is_linked : (ℕ → Bool) → List Edge → List Bool → ℕ → Bool
is_linked near [] set v = false
is_linked near (e ∷ es) [] v = false
is_linked near (e ∷ es) (flag ∷ set) v = (flag && joins near e v) || is_linked near es set v

-- a walk of at most so many edges of the set leads from the root to the vertex
abbrev pub is_within : Graph → List Bool → ℕ → ℕ → Bool
is_within g set zero v = eqb (root_of g) v
is_within g set (suc hops) v = is_within g set hops v || is_linked (is_within g set hops) g.edges set v

-- the arc from v to w leads away from the root: some number of edges below the bound is enough to come to v and not to w
abbrev pub is_away : Graph → List Bool → ℕ → ℕ → ℕ → Bool
is_away g set zero v w = false
is_away g set (suc hops) v w = is_away g set hops v w || (is_within g set hops v && not (is_within g set hops w))

-- an edge joins each of its ends to the other
joins_from : (near : ℕ → Bool) (e : Edge) (v w : ℕ) → HasEnds e v w → near v ≡ true → joins near e w ≡ true
joins_from near e v w (inl ends) passes = or_right _ _ (and_from _ _ (eq-eqb e.b w ends.1) (ap near ends.0 ∙ passes))
joins_from near e v w (inr ends) passes = or_left _ _ (and_from _ _ (eq-eqb e.a w ends.0) (ap near ends.1 ∙ passes))

-- and nothing else
joins_parts : (near : ℕ → Bool) (e : Edge) (w : ℕ) → joins near e w ≡ true → (v : ℕ) × HasEnds e v w × (near v ≡ true)
joins_parts near e w holds =
    grind (arith, and_parts, near e.b, eqb-true, near e.a, or_cases (eqb e.a w && near e.b) (eqb e.b w && near e.a) holds)

-- an edge of the set that joins the vertex to one that passes is found
is_linked_from : (near : ℕ → Bool) (es : List Edge) (set : List Bool) (w n : ℕ) (e : Edge) →
    slice_get set n ≡ Some true → slice_get es n ≡ Some e → joins near e w ≡ true → is_linked near es set w ≡ true
is_linked_from near [] set w n e in_set in_graph joined = cc
is_linked_from near (d ∷ es) [] w n e in_set in_graph joined = cc
is_linked_from near (d ∷ es) (flag ∷ set) w zero e in_set in_graph joined =
    or_left _ _ (and_from _ _ (same_Some flag true in_set) (ap (λ x. joins near x w) (same_Some d e in_graph) ∙ joined))
is_linked_from near (d ∷ es) (flag ∷ set) w (suc n) e in_set in_graph joined =
    or_right _ _ (is_linked_from near es set w n e in_set in_graph joined)

-- and what is found is such an edge
is_linked_parts : (near : ℕ → Bool) (es : List Edge) (set : List Bool) (w : ℕ) → is_linked near es set w ≡ true →
    (n : ℕ) × (e : Edge) × (slice_get set n ≡ Some true) × (slice_get es n ≡ Some e) × (joins near e w ≡ true)
is_linked_parts near [] set w holds = cc
is_linked_parts near (e ∷ es) [] w holds = cc
is_linked_parts near (e ∷ es) (flag ∷ set) w holds =
    ⊎_elim
    (λ here. let parts = and_parts flag (joins near e w) here in (zero, e, ap Some parts.0, refl, parts.1))
    (λ later. let (n, d, in_set, in_graph, joined) = is_linked_parts near es set w later in (suc n, d, in_set, in_graph, joined))
    (or_cases (flag && joins near e w) (is_linked near es set w) holds)

-- a vertex stays within a larger number of edges
pub is_within_later : (g : Graph) (set : List Bool) (j k v : ℕ) → j ≤ k → is_within g set j v ≡ true → is_within g set k v ≡ true
is_within_later g set j zero v below holds = let same : j ≡ 0 = omega arith in subst (λ h. is_within g set h v ≡ true) same holds
is_within_later g set j (suc k) v below holds =
    ⊎_elim
    (λ less. let lower : j ≤ k = omega arith in or_left _ _ (is_within_later g set j k v lower holds))
    (λ more. let same : j ≡ suc k = omega arith in subst (λ h. is_within g set h v ≡ true) same holds)
    (cases_lt j (suc k))

-- a walk of so many edges is one of at most so many
pub is_within-from_walk : (g : Graph) (set : List Bool) (hops v : ℕ) → Walk g set (root_of g) v hops → is_within g set hops v ≡ true
is_within-from_walk g set zero v walk = eq-eqb (root_of g) v walk
is_within-from_walk g set (suc hops) v (u, walk, link) =
    let (n, e, in_set, in_graph, ends) = link in
    or_right _ _
    (is_linked_from (is_within g set hops) g.edges set v n e in_set in_graph
    (joins_from (is_within g set hops) e u v ends (is_within-from_walk g set hops u walk)))

-- the last step of a walk to a vertex to which no fewer edges lead
pub last_step : (g : Graph) (set : List Bool) (hops w : ℕ) → is_within g set (suc hops) w ≡ true → is_within g set hops w ≡ false →
    (v : ℕ) × Links g set v w × (is_within g set hops v ≡ true)
last_step g set hops w near far =
    let linked : is_linked (is_within g set hops) g.edges set w ≡ true = rw far at near in
    let (n, e, in_set, in_graph, joined) = is_linked_parts (is_within g set hops) g.edges set w linked in
    let (v, ends, sooner) = joins_parts (is_within g set hops) e w joined in
    (v, (n, e, in_set, in_graph, ends), sooner)

-- a vertex within some number of edges is reached
pub Reaches-from_within : (g : Graph) (set : List Bool) (hops v : ℕ) → is_within g set hops v ≡ true → Reaches g set v
Reaches-from_within g set zero v near = (zero, eqb-true (root_of g) v near)
Reaches-from_within g set (suc hops) v near =
    ⊎_elim
    (Reaches-from_within g set hops v)
    (λ far. let (u, link, sooner) = last_step g set hops v near far in
    let (n, walk) = Reaches-from_within g set hops u sooner in (suc n, (u, walk, link)))
    (cases_Bool (is_within g set hops v))

-- such a number of edges for an arc that leads away
is_away_parts : (g : Graph) (set : List Bool) (hops v w : ℕ) → is_away g set hops v w ≡ true →
    (k : ℕ) × (is_within g set k v ≡ true) × (is_within g set k w ≡ false)
is_away_parts g set zero v w holds = cc
is_away_parts g set (suc hops) v w holds =
    grind (arith, is_away_parts g set hops v w, and_parts, not-true, or_cases (is_away g set hops v w) (is_within g set hops v && not (is_within g set hops w)) holds)

-- an arc that leads away starts at a reached vertex
pub Reaches-from_away : (g : Graph) (set : List Bool) (hops v w : ℕ) → is_away g set hops v w ≡ true → Reaches g set v
Reaches-from_away g set hops v w away =
    let (k, near, far) = is_away_parts g set hops v w away in Reaches-from_within g set k v near

-- only one of an edge's two arcs leads away
pub is_away_one_way : (g : Graph) (set : List Bool) (hops v w : ℕ) →
    is_away g set hops v w ≡ true → is_away g set hops w v ≡ true → ⊥
is_away_one_way g set hops v w there back =
    let (j, near_v, far_w) = is_away_parts g set hops v w there in
    let (k, near_w, far_v) = is_away_parts g set hops w v back in
    ⊎_elim
    (λ less. let lower : j ≤ k = omega arith in both_ways _ far_v (is_within_later g set j k v lower near_v))
    (λ more. both_ways _ far_w (is_within_later g set k j w more near_w))
    (cases_lt j k)

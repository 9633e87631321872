-- The weights of cuts that are all entered, summed by cuts, are no more than the loads of arcs, summed by edges.
use Rattle.std.proofs.Common.{ℕ, zero, suc, ◌≡◌, ◌+◌, ◌≤◌, inl, inr, Bool, true, false, cond, List, [], ◌∷◌, slice_get, Some, sum_by, if◌then◌else◌, refl, arith}
use Rattle.std.specs.List.{AllByRecursion}
use Rattle.std.proofs.lemmas.List.Sums.{sum_by-cons}
use Rattle.std.proofs.lemmas.Option.{same_Some}
use Rattle.net_graph.specs.declared.edge.Edge.{Edge}
use Rattle.net_graph.specs.declared.packing.Cut.{Cut}
use Rattle.net_graph.specs.Graph.{Graph}
use Rattle.net_graph.specs.Network.{HasEnds}
use Rattle.net_graph.specs.Packing.{enters, load}
use Rattle.duality.proofs.Hops.{is_away}
use Rattle.duality.proofs.Crossing.{Entry}

-- the load of an arc that passes the test, else nothing
abbrev pub arc_load : (ℕ → ℕ → Bool) → List Cut → ℕ → ℕ → ℕ
arc_load away packing v w = if away v w then load packing v w else 0

-- the loads of those of an edge's arcs that pass
abbrev pub edge_load : (ℕ → ℕ → Bool) → List Cut → Edge → ℕ
edge_load away packing e = arc_load away packing e.a e.b + arc_load away packing e.b e.a

-- the sum of them over the edges of a set
abbrev pub set_load : (ℕ → ℕ → Bool) → List Cut → List Edge → List Bool → ℕ
set_load away packing [] set = 0
set_load away packing (e ∷ es) [] = 0
set_load away packing (e ∷ es) (flag ∷ set) = (if flag then edge_load away packing e else 0) + set_load away packing es set

-- the load of one more cut
load-cons : (c : Cut) (cs : List Cut) (v w : ℕ) → load (c ∷ cs) v w ≡ load (c ∷ []) v w + load cs v w
load-cons c cs v w =
    let weight : Cut → ℕ = λ d. if enters d.members v w then d.weight else 0 in
    omega (arith, sum_by-cons weight c cs)

-- the same of an arc that passes or not
arc_load-cons : (away : ℕ → ℕ → Bool) (c : Cut) (cs : List Cut) (v w : ℕ) →
    arc_load away (c ∷ cs) v w ≡ arc_load away (c ∷ []) v w + arc_load away cs v w
arc_load-cons away c cs v w =
    elim (away v w) as (λ (b : Bool). cond b (load (c ∷ cs) v w) 0 ≡ cond b (load (c ∷ []) v w) 0 + cond b (load cs v w) 0)
    [ true ↦ load-cons c cs v w | false ↦ refl ]

-- the same of a set
set_load-cons : (away : ℕ → ℕ → Bool) (c : Cut) (cs : List Cut) (es : List Edge) (set : List Bool) →
    set_load away (c ∷ cs) es set ≡ set_load away (c ∷ []) es set + set_load away cs es set
set_load-cons away c cs [] set = refl
set_load-cons away c cs (e ∷ es) [] = refl
set_load-cons away c cs (e ∷ es) (false ∷ set) = omega (arith, set_load-cons away c cs es set)
set_load-cons away c cs (e ∷ es) (true ∷ set) = omega (arith, arc_load-cons away c cs e.a e.b, arc_load-cons away c cs e.b e.a, set_load-cons away c cs es set)

-- an arc that enters a cut is loaded with the cut's weight
arc_load_entered : (away : ℕ → ℕ → Bool) (c : Cut) (v w : ℕ) → away v w ≡ true → enters c.members v w ≡ true →
    c.weight ≤ arc_load away (c ∷ []) v w
arc_load_entered away c v w passes entered = rw (passes, entered) (omega arith)

-- and so is its edge
edge_load_entered : (away : ℕ → ℕ → Bool) (c : Cut) (e : Edge) (v w : ℕ) → HasEnds e v w → away v w ≡ true →
    enters c.members v w ≡ true → c.weight ≤ edge_load away (c ∷ []) e
edge_load_entered away c e v w (inl ends) passes entered =
    rw (ends.0, ends.1) (omega (arith, arc_load_entered away c v w passes entered))
edge_load_entered away c e v w (inr ends) passes entered =
    rw (ends.0, ends.1) (omega (arith, arc_load_entered away c v w passes entered))

-- and a set that has the edge
set_load_entered : (away : ℕ → ℕ → Bool) (c : Cut) (es : List Edge) (set : List Bool) (n : ℕ) (e : Edge) →
    slice_get set n ≡ Some true → slice_get es n ≡ Some e → c.weight ≤ edge_load away (c ∷ []) e →
    c.weight ≤ set_load away (c ∷ []) es set
set_load_entered away c [] set n e in_set in_graph entered = cc
set_load_entered away c (d ∷ es) [] n e in_set in_graph entered = cc
set_load_entered away c (d ∷ es) (flag ∷ set) zero e in_set in_graph entered =
    rw (same_Some flag true in_set, same_Some d e in_graph) (omega arith)
set_load_entered away c (d ∷ es) (flag ∷ set) (suc n) e in_set in_graph entered =
    omega (arith, set_load_entered away c es set n e in_set in_graph entered)

-- the exchange: where each cut has an entry, the weights are no more than what the set carries
pub sum-le-set_load : (g : Graph) (set : List Bool) (hops : ℕ) (cs : List Cut) →
    AllByRecursion (λ c. Entry g set hops c.members) cs →
    sum_by (λ c. c.weight) cs ≤ set_load (is_away g set hops) cs g.edges set
sum-le-set_load g set hops [] entries = omega arith
sum-le-set_load g set hops (c ∷ cs) (entry, entries) =
    let (n, e, in_set, in_graph, ends) = entry.link in
    let away = is_away g set hops in
    let here : c.weight ≤ set_load away (c ∷ []) g.edges set =
    set_load_entered away c g.edges set n e in_set in_graph
    (edge_load_entered away c e entry.tail entry.head ends entry.away entry.entered) in
    omega (
      arith,
      here,
      sum-le-set_load g set hops cs entries,
      set_load-cons away c cs g.edges set,
      sum_by-cons (λ d. d.weight) c cs,
    )

-- where at most one of an edge's arcs passes, the edge carries no more than what bounds each of them
pub edge_load-le : (away : ℕ → ℕ → Bool) (packing : List Cut) (e : Edge) (bound : ℕ) →
    (away e.a e.b ≡ true → away e.b e.a ≡ true → ⊥) → (away e.a e.b ≡ true → load packing e.a e.b ≤ bound) →
    (away e.b e.a ≡ true → load packing e.b e.a ≤ bound) → edge_load away packing e ≤ bound
edge_load-le away packing e bound = cases (away e.a e.b) (away e.b e.a)
  where
    cases : (there back : Bool) → (there ≡ true → back ≡ true → ⊥) → (there ≡ true → load packing e.a e.b ≤ bound) →
        (back ≡ true → load packing e.b e.a ≤ bound) →
        (if there then load packing e.a e.b else 0) + (if back then load packing e.b e.a else 0) ≤ bound
    cases true true one_way first second = absurd (one_way refl refl)
    cases true false one_way first second = omega (arith, first refl)
    cases false true one_way first second = omega (arith, second refl)
    cases false false one_way first second = omega arith

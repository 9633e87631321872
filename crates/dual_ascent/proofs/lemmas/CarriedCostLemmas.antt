-- What a packing leaves of the rooms once cuts were taken back, and once more is decided.
use Rattle.std.proofs.Common.{ℕ, suc, ◌≡◌, ◌+◌, ◌^◌, ◌≤◌, ◌<◌, Bool, true, false, List, [], ◌∷◌, ◌++◌, filter, map, length, sum_by, take, drop, get_or, slice_get, Some, ⊎_elim, refl, sym, ap, subst, ◌∙◌, arith, append-nil}
use Rattle.std.specs.List.{zip}
use Rattle.std.proofs.Math.Seq.{drop-cons}
use Rattle.std.proofs.lemmas.List.Elements.{filter_more}
use Rattle.std.proofs.lemmas.List.Sums.{sum_by-cons, sum_by-append, sum_by-take-drop, get_or-le-sum_by}
use Rattle.std.proofs.lemmas.Option.{same_Some, slice_get-get_or, slice_get_within, get_or_from_slice_get}
use Rattle.net_graph.specs.declared.edge.Edge.{Edge}
use Rattle.net_graph.specs.declared.packing.Cut.{Cut}
use Rattle.net_graph.specs.declared.state.EdgeState.{EdgeState}
use Rattle.net_graph.specs.declared.state.EdgeState.TheVariants.{Undecided, Inside}
use Rattle.net_graph.specs.Arcs.{forward_arc, backward_arc}
use Rattle.net_graph.specs.Graph.{Graph, IsGraph}
use Rattle.net_graph.specs.Packing.{enters, load, room_of, IsWithinRoom}
use Rattle.dual_ascent.specs.declared.costs.EdgeCosts.{EdgeCosts}
use Rattle.dual_ascent.specs.declared.entering.EnteringArc.{EnteringArc}
use Rattle.dual_ascent.specs.Costs.{left_after, raised_after, raised_by, left_in, left_of, costs_of, cost_of, weight_on}
use Rattle.dual_ascent.specs.CostLaws.{slice_get-costs_of}
use Rattle.dual_ascent.specs.Entering.{EntersLeft}
use Rattle.dual_ascent.proofs.lemmas.ArcLemmas.{cost_of-even, cost_of-odd}
use Rattle.dual_ascent.proofs.lemmas.CarriedLemmas.{load-fewer}
use Rattle.dual_ascent.proofs.lemmas.LoadLemmas.{edges-costs_of}

-- the loads of a packing keep to the rooms
abbrev pub AreWithinRooms : List Edge → List EdgeState → List Cut → Type 0
AreWithinRooms edges states packing = (n : ℕ) (e : Edge) (state : EdgeState) → slice_get edges n ≡ Some e → slice_get states n ≡ Some state →
    IsWithinRoom state e (load packing e.a e.b) × IsWithinRoom state e (load packing e.b e.a)

-- ---- a cut that is taken back

-- the load of a cut amid others
load-amid : (front : List Cut) (cut : Cut) (rest : List Cut) (u v : ℕ) →
    load (front ++ cut ∷ rest) u v ≡ load (front ++ rest) u v + weight_on cut u v
load-amid front cut rest u v = omega (arith, sum_by-append, sum_by-cons)

-- what is left of an arc then
raised_arc : (state : EdgeState) (e : Edge) (front : List Cut) (cut : Cut) (rest : List Cut) (u v : ℕ) →
    IsWithinRoom state e (load (front ++ cut ∷ rest) u v) →
    raised_after (left_after (room_of state e) (load (front ++ cut ∷ rest) u v)) (weight_on cut u v)
    ≡ left_after (room_of state e) (load (front ++ rest) u v)
raised_arc state e front cut rest u v fits = grind (arith, load-amid)

-- .. of all arcs
pub map-raised_by : (edges : List Edge) (states : List EdgeState) (front : List Cut) (cut : Cut) (rest : List Cut) →
    AreWithinRooms edges states (front ++ cut ∷ rest) →
    map (raised_by cut) (costs_of edges states (front ++ cut ∷ rest)) ≡ costs_of edges states (front ++ rest)
map-raised_by [] states front cut rest within = refl
map-raised_by (e ∷ edges) [] front cut rest within = refl
map-raised_by (e ∷ edges) (state ∷ states) front cut rest within =
    let own = within 0 e state refl refl in
    let there = raised_arc state e front cut rest e.a e.b own.0 in
    let back = raised_arc state e front cut rest e.b e.a own.1 in
    let more = map-raised_by edges states front cut rest (λ n x s at is. within (suc n) x s at is) in
    cc

-- the weight of a cut and what is left of an arc that enters it
weight_fits : (state : EdgeState) (e : Edge) (front : List Cut) (cut : Cut) (rest : List Cut) (u v left : ℕ) → enters cut.members u v ≡ true →
    left_after (room_of state e) (load (front ++ cut ∷ rest) u v) ≡ Some left → left + cut.weight ≤ e.length
weight_fits state e front cut rest u v left entered is = grind (arith, load-amid)

pub raise_fits : (g : Graph) (states : List EdgeState) (front : List Cut) (cut : Cut) (rest : List Cut) (x : EnteringArc) → IsGraph g →
    length states ≡ length g.edges → EntersLeft (costs_of g.edges states (front ++ cut ∷ rest)) cut.members x → x.left + cut.weight < 2 ^ 64
raise_fits g states front cut rest x graph size own =
    let packing : List Cut = front ++ cut ∷ rest in
    let costs : List EdgeCosts = costs_of g.edges states packing in
    let (n, e, at, way) = own.arc in
    let here : slice_get g.edges n ≡ Some e = ap (λ es. slice_get es n) (sym (edges-costs_of g.edges states packing size)) ∙ at in
    let low : n < length g.edges = slice_get_within g.edges n e here in
    let state : EdgeState = get_or states n Undecided in
    let decided : slice_get states n ≡ Some state = slice_get-get_or states n Undecided (omega arith) in
    let cost : slice_get costs n ≡ Some (left_of e state packing) = slice_get-costs_of g.edges states packing n e state here decided in
    let short : e.length ≤ sum_by (λ (y : Edge). y.length) g.edges =
    subst (λ (y : Edge). y.length ≤ sum_by (λ (z : Edge). z.length) g.edges) (get_or_from_slice_get g.edges n e e here)
    (get_or-le-sum_by (λ (y : Edge). y.length) g.edges n e low) in
    let fits : x.left + cut.weight ≤ e.length = ⊎_elim
    (λ (is : x.arc ≡ forward_arc n e).
    weight_fits state e front cut rest e.a e.b x.left
    (subst (λ y. enters cut.members y.from y.to ≡ true) is own.enters)
    (sym (cost_of-even costs n (left_of e state packing) cost) ∙ ap (λ y. cost_of costs y.number) (sym is) ∙ own.left))
    (λ (is : x.arc ≡ backward_arc n e).
    weight_fits state e front cut rest e.b e.a x.left
    (subst (λ y. enters cut.members y.from y.to ≡ true) is own.enters)
    (sym (cost_of-odd costs n (left_of e state packing) cost) ∙ ap (λ y. cost_of costs y.number) (sym is) ∙ own.left))
    way in
    omega (arith, fits, short, graph.total)

-- ---- a loop over the cuts, of which those that don't pass a test are taken back

-- the cuts that are there before one is looked at
abbrev pub those_left : (Cut → Bool) → List Cut → ℕ → List Cut
those_left test packing i = filter test (take i packing) ++ drop i packing

-- they load no more than all
load-those_left : (test : Cut → Bool) (packing : List Cut) (i u v : ℕ) → load (those_left test packing i) u v ≤ load packing u v
load-those_left test packing i u v = grind (arith, sum_by-append, load-fewer, sum_by-take-drop)

-- and so they keep to the rooms
pub those_left_within : (edges : List Edge) (states : List EdgeState) (test : Cut → Bool) (packing : List Cut) (i : ℕ) →
    AreWithinRooms edges states packing → AreWithinRooms edges states (those_left test packing i)
those_left_within edges states test packing i within n e state at is =
    grind (arith, within n e state, load-those_left test packing i e.a e.b, load-those_left test packing i e.b e.a)

-- the cut that is looked at is the first of the rest
pub those_left-at : (test : Cut → Bool) (packing : List Cut) (i : ℕ) (c : Cut) → i < length packing → get_or packing i c ≡ c →
    those_left test packing i ≡ filter test (take i packing) ++ c ∷ drop (i + 1) packing
those_left-at test packing i c within is = grind (arith, drop-cons packing i c within)

-- behind one that doesn't, it is missing
pub those_left-taken : (test : Cut → Bool) (packing : List Cut) (i : ℕ) (c : Cut) → i < length packing → get_or packing i c ≡ c →
    test c ≡ false → those_left test packing (i + 1) ≡ filter test (take i packing) ++ drop (i + 1) packing
those_left-taken test packing i c within is fails =
    grind (arith, filter_more test packing i c within, append-nil (filter test (take i packing)))

-- ---- more that is decided

-- the costs of one edge
left_in-left_of : (e : Edge) (before now : EdgeState) (packing : List Cut) → (now ≡ Undecided → before ≡ Undecided)
    → (now ≡ Inside → (load packing e.a e.b ≡ 0) × (load packing e.b e.a ≡ 0)) → left_in (left_of e before packing) now ≡ left_of e now packing
left_in-left_of e before now packing undecided inside = grind arith

-- .. of all edges
pub costs_in : (edges : List Edge) (before now : List EdgeState) (packing : List Cut) → length before ≡ length edges → length now ≡ length edges
    → ((n : ℕ) → slice_get now n ≡ Some Undecided → slice_get before n ≡ Some Undecided)
    → ((n : ℕ) (e : Edge) → slice_get edges n ≡ Some e → slice_get now n ≡ Some Inside → (load packing e.a e.b ≡ 0) × (load packing e.b e.a ≡ 0))
    → map (λ (pair : EdgeCosts × EdgeState). left_in pair.0 pair.1) (zip (costs_of edges before packing) now) ≡ costs_of edges now packing
costs_in [] before now packing many many' undecided inside = refl
costs_in (e ∷ edges) [] now packing many many' undecided inside = absurd (omega arith)
costs_in (e ∷ edges) (s ∷ before) [] packing many many' undecided inside = absurd (omega arith)
costs_in (e ∷ edges) (s ∷ before) (t ∷ now) packing many many' undecided inside =
    let here = left_in-left_of e s t packing
    (λ is. same_Some s Undecided (undecided 0 (ap Some is)))
    (λ is. inside 0 e refl (ap Some is)) in
    let more = costs_in edges before now packing (omega arith) (omega arith) (λ n is. undecided (suc n) is) (λ n x at is. inside (suc n) x at is) in
    (λ i. here i ∷ more i)

-- A packing carried to the next decision stays feasible.
use Rattle.std.proofs.Common.{ℕ, zero, suc, ◌≡◌, ◌≤◌, ◌<◌, Bool, true, false, not, List, [], ◌∷◌, ◌++◌, filter, length, slice_get, All, Contains, Some, ⊎_elim, refl, sym, ap, subst, ◌∙◌, arith, append-nil, append_assoc}
use Rattle.std.specs.List.{list_any}
use Rattle.std.proofs.lemmas.Bool.{cases_Bool, or_parts}
use Rattle.std.proofs.lemmas.List.Elements.{All-filter, All-head, All-tail, All-weaker, Contains-append_right, filter_passes}
use Rattle.std.proofs.lemmas.List.Folds.{list_any-from_Any}
use Rattle.std.proofs.lemmas.List.Sums.{sum_by-cons}
use Rattle.std.proofs.lemmas.Option.{same_Some}
use Rattle.net_graph.specs.declared.edge.Edge.{Edge}
use Rattle.net_graph.specs.declared.packing.Cut.{Cut}
use Rattle.net_graph.specs.declared.state.EdgeState.{EdgeState}
use Rattle.net_graph.specs.declared.state.EdgeState.TheVariants.{Undecided, Inside, Outside}
use Rattle.net_graph.specs.declared.state.VertexState.{VertexState}
use Rattle.net_graph.specs.Graph.{Graph}
use Rattle.net_graph.specs.Decision.{Decided, IsRequired, IsUndecided, states_of, states_at_ends}
use Rattle.net_graph.specs.DecisionLaws.{states_of-inside}
use Rattle.net_graph.specs.DecidingLaws.{IsRequired-with_edge, IsRequired-with_vertex, IsUndecided-before_edge, IsUndecided-before_vertex}
use Rattle.net_graph.specs.Packing.{enters, load, IsCut, IsWithinRoom, IsFeasible}
use Rattle.dual_ascent.specs.Carried.{inside_edges, is_entered_along, unentered, DecidesOneMore}
use Rattle.dual_ascent.specs.Costs.{weight_on}

-- the edge, where it is inside
abbrev pub inside_one : Edge → EdgeState → List Edge
inside_one e Inside = e ∷ []
inside_one e Undecided = []
inside_one e Outside = []

-- the first edge and the others
inside_first : (e : Edge) (state : EdgeState) (es : List Edge) (states : List EdgeState) → inside_edges (e ∷ es) (state ∷ states) ≡ inside_one e state ++ inside_edges es states
inside_first e state es states = grind arith

-- one more edge
pub inside_edges-push : (es : List Edge) (states : List EdgeState) (e : Edge) (state : EdgeState) → slice_get states (length es) ≡ Some state → inside_edges (es ++ e ∷ []) states ≡ inside_edges es states ++ inside_one e state
inside_edges-push [] [] e state at = absurd cc
inside_edges-push [] (t ∷ states) e state at = inside_first e t [] states ∙ append-nil (inside_one e t) ∙ ap (inside_one e) (same_Some t state at)
inside_edges-push (x ∷ es) [] e state at = absurd cc
inside_edges-push (x ∷ es) (t ∷ states) e state at =
    search (inside_first, append_assoc, inside_edges-push es states e state at)

-- a missed end makes no edge inside
pub inside_edges-at_ends : (edges : List Edge) (states : List EdgeState) (vertices : List VertexState) → inside_edges edges (states_at_ends edges states vertices) ≡ inside_edges edges states
inside_edges-at_ends [] states vertices = refl
inside_edges-at_ends (e ∷ es) [] vertices = refl
inside_edges-at_ends (e ∷ es) (Inside ∷ states) vertices = ap (λ ys. e ∷ ys) (inside_edges-at_ends es states vertices)
inside_edges-at_ends (e ∷ es) (Undecided ∷ states) vertices = grind (arith, inside_edges-at_ends es states vertices)
inside_edges-at_ends (e ∷ es) (Outside ∷ states) vertices = inside_edges-at_ends es states vertices

-- an inside edge is one of the inside edges
inside_listed : (edges : List Edge) (states : List EdgeState) (n : ℕ) (e : Edge) → slice_get edges n ≡ Some e → slice_get states n ≡ Some Inside → Contains (inside_edges edges states) e
inside_listed [] states n e at inside = absurd cc
inside_listed (x ∷ edges) [] n e at inside = absurd cc
inside_listed (x ∷ edges) (t ∷ states) zero e at inside = grind arith
inside_listed (x ∷ edges) (t ∷ states) (suc n) e at inside =
    rw (inside_first x t edges states) (Contains-append_right (inside_one x t) (inside_edges edges states) e (inside_listed edges states n e at inside))

-- an arc along which no cut is entered has no load
load-none : (packing : List Cut) (u v : ℕ) → All (λ c. enters c.members u v ≡ false) packing → load packing u v ≡ 0
load-none [] u v none = refl
load-none (c ∷ packing) u v none =
    let here : enters c.members u v ≡ false = All-head (λ c. enters c.members u v ≡ false) c packing none in
    let rest : load packing u v ≡ 0 = load-none packing u v (All-tail (λ c. enters c.members u v ≡ false) c packing none) in
    let first : weight_on c u v ≡ 0 = rw here refl in
    omega (arith, sum_by-cons (λ (c : Cut). weight_on c u v) c packing)

-- fewer cuts load no more
pub load-fewer : (test : Cut → Bool) (packing : List Cut) (u v : ℕ) → load (filter test packing) u v ≤ load packing u v
load-fewer test [] u v = omega arith
load-fewer test (c ∷ packing) u v =
    let less = load-fewer test packing u v in
    ⊎_elim
    (λ (stays : test c ≡ true).
    let is : filter test (c ∷ packing) ≡ c ∷ filter test packing = rw stays refl in
    rw is (omega (arith, less, sum_by-cons (λ (c : Cut). weight_on c u v) c packing, sum_by-cons (λ (c : Cut). weight_on c u v) c (filter test packing))))
    (λ (goes : test c ≡ false).
    let is : filter test (c ∷ packing) ≡ filter test packing = rw goes refl in
    rw is (omega (arith, less, sum_by-cons (λ (c : Cut). weight_on c u v) c packing)))
    (cases_Bool (test c))

-- what was required is required
required_still : (g : Graph) (before now : Decided) (v : ℕ) → DecidesOneMore g before now → IsRequired g before v → IsRequired g now v
required_still g before now v one required = ⊎_elim
    (λ (n, state, undecided, is). subst (λ d. IsRequired g d v) (sym is) (IsRequired-with_edge g before n v state undecided required))
    (λ (w, state, undecided, is). subst (λ d. IsRequired g d v) (sym is) (IsRequired-with_vertex g before w v state undecided required))
    one

-- what is undecided was undecided
pub undecided_before : (g : Graph) (before now : Decided) (k : ℕ) → DecidesOneMore g before now → IsUndecided g now k → IsUndecided g before k
undecided_before g before now k one is_now = grind (arith, IsUndecided-before_edge, IsUndecided-before_vertex)

-- the edge's arcs keep to their room
pub room_kept : (g : Graph) (before now : Decided) (packing : List Cut) (n : ℕ) (e : Edge) (state : EdgeState) → DecidesOneMore g before now → IsFeasible g before packing →
    slice_get g.edges n ≡ Some e → slice_get (states_of g now) n ≡ Some state →
    let kept : List Cut = unentered (inside_edges g.edges now.edges) packing in IsWithinRoom state e (load kept e.a e.b) × IsWithinRoom state e (load kept e.b e.a)
room_kept g before now packing n e Outside one feasible at decided = (tt, tt)
room_kept g before now packing n e Undecided one feasible at decided =
    let test : Cut → Bool = λ c. not (list_any (is_entered_along c.members) (inside_edges g.edges now.edges)) in
    let was = feasible.room n e Undecided at (undecided_before g before now n one decided) in
    let there : load packing e.a e.b ≤ e.length = was.0 in
    let back : load packing e.b e.a ≤ e.length = was.1 in
    (omega (arith, load-fewer test packing e.a e.b), omega (arith, load-fewer test packing e.b e.a))
room_kept g before now packing n e Inside one feasible at decided =
    let edges : List Edge = inside_edges g.edges now.edges in
    let test : Cut → Bool = λ c. not (list_any (is_entered_along c.members) edges) in
    let listed : Contains edges e = inside_listed g.edges now.edges n e at (states_of-inside g now n decided) in
    let apart : All (λ c. (enters c.members e.a e.b ≡ false) × (enters c.members e.b e.a ≡ false)) (filter test packing) =
    All-weaker (λ c. test c ≡ true) (λ c. (enters c.members e.a e.b ≡ false) × (enters c.members e.b e.a ≡ false))
    (λ c passes. or_parts (enters c.members e.a e.b) (enters c.members e.b e.a)
    (grind (arith, list_any-from_Any)))
    (filter test packing) (filter_passes test packing) in
    let there : load (filter test packing) e.a e.b ≡ 0 = load-none (filter test packing) e.a e.b (λ k d lt. (apart k d lt).0) in
    let back : load (filter test packing) e.b e.a ≡ 0 = load-none (filter test packing) e.b e.a (λ k d lt. (apart k d lt).1) in
    (omega arith, omega arith)

-- the cuts that remain are feasible
pub IsFeasible-unentered : (g : Graph) (before now : Decided) (packing : List Cut) → DecidesOneMore g before now → IsFeasible g before packing → IsFeasible g now (unentered (inside_edges g.edges now.edges) packing)
IsFeasible-unentered g before now packing one feasible =
    let test : Cut → Bool = λ c. not (list_any (is_entered_along c.members) (inside_edges g.edges now.edges)) in
    record {
      cuts = All-weaker (λ c. (0 < c.weight) × IsCut g before c.members) (λ c. (0 < c.weight) × IsCut g now c.members)
          (λ c (some, cut). (some, record { size = cut.size; rootless = cut.rootless; required = (cut.required.0, required_still g before now cut.required.0 one cut.required.1, cut.required.2) }))
          (filter test packing) (All-filter test (λ c. (0 < c.weight) × IsCut g before c.members) packing feasible.cuts);
      room = λ n e state at decided. room_kept g before now packing n e state one feasible at decided;
    }

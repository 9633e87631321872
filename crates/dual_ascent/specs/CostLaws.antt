-- What packed cuts leave of the room of arcs, and which arcs they saturate.
use Rattle.std.specs.Prelude.{ℕ, zero, suc, ◌≡◌, ◌-◌, ◌/◌, ◌%◌, ◌<◌, ◌≤◌, true, List, [], ◌∷◌, length, slice_get, Option, Some, None, ◌⊎◌}
use Rattle.std.proofs.Common.{get_or, ap, ◌∙◌, eqb-true, arith, refl}
use Rattle.std.proofs.lemmas.Bool.{cases_lt, cases_eq, le-leb, lt-leb}
use Rattle.std.proofs.lemmas.Option.{same_Some, slice_get-get_or, slice_get_past}
use Rattle.net_graph.specs.declared.edge.Edge.{Edge}
use Rattle.net_graph.specs.declared.state.EdgeState.{EdgeState}
use Rattle.net_graph.specs.declared.state.EdgeState.TheVariants.{Undecided}
use Rattle.net_graph.specs.declared.packing.Cut.{Cut}
use Rattle.net_graph.specs.Graph.{Graph}
use Rattle.net_graph.specs.Decision.{Decided, IsDecisionFor, states_of}
use Rattle.net_graph.specs.DecisionLaws.{length-states_of}
use Rattle.net_graph.specs.Packing.{load, room_of}
use Rattle.dual_ascent.specs.declared.costs.EdgeCosts.{EdgeCosts}
use Rattle.dual_ascent.specs.Costs.{left_after, left_of, costs_of, is_used_up, is_saturated}

-- a load within a room leaves the rest
pub left_after-le : (room amount : ℕ) → amount ≤ room → left_after (Some room) amount ≡ Some (room - amount)
left_after-le room amount fits = rw (le-leb amount room fits) refl

-- a load above a room leaves nothing that could be used up
pub left_after-lt : (room amount : ℕ) → room < amount → left_after (Some room) amount ≡ None
left_after-lt room amount over = rw (lt-leb amount room over) refl

-- nothing is left only where the load is the room
pub left_after-none : (room : Option ℕ) (amount : ℕ) → left_after room amount ≡ Some 0 → room ≡ Some amount
left_after-none None amount none = absurd cc
left_after-none (Some room) amount none =
    grind (arith, Some room, left_after-lt, same_Some, left_after-le, cases_lt room amount)

-- the room of an edge
pub slice_get-costs_of : (edges : List Edge) (decision : List EdgeState) (packing : List Cut) (n : ℕ) (e : Edge)
    (state : EdgeState) → slice_get edges n ≡ Some e →
    slice_get decision n ≡ Some state → slice_get (costs_of edges decision packing) n ≡
    Some (left_of e state packing)
slice_get-costs_of [] decision packing n e state at decided = absurd cc
slice_get-costs_of (x ∷ edges) [] packing n e state at decided = absurd cc
slice_get-costs_of (x ∷ edges) (s ∷ decision) packing zero e state at decided =
    grind (arith, same_Some x e, same_Some s state decided)
slice_get-costs_of (x ∷ edges) (s ∷ decision) packing (suc n) e state at decided =
    slice_get-costs_of edges decision packing n e state at decided

-- there are as many costs as edges
pub length-costs_of : (edges : List Edge) (decision : List EdgeState) (packing : List Cut) → length decision ≡
    length edges → length (costs_of edges decision packing) ≡ length edges
length-costs_of [] decision packing size = refl
length-costs_of (e ∷ edges) [] packing size = absurd (omega arith)
length-costs_of (e ∷ edges) (state ∷ decision) packing size =
    ap suc (length-costs_of edges decision packing (omega arith))

-- .. so what a packing leaves under a decision has as many parts as the graph has edges
pub length-left : (g : Graph) (d : Decided) (packing : List Cut) (costs : List EdgeCosts) → IsDecisionFor g d →
    costs ≡ costs_of g.edges (states_of g d) packing → length costs ≡ length g.edges
length-left g d packing costs decision left =
    ap length left ∙ length-costs_of g.edges (states_of g d) packing (length-states_of g d decision.edges)

-- nothing is left exactly where the amount left is 0
pub is_used_up-some : (left : Option ℕ) → is_used_up left ≡ true → left ≡ Some 0
is_used_up-some None holds = absurd cc
is_used_up-some (Some left) holds = ap (λ n. Some n) (eqb-true left 0 holds)

-- the arc of a number is saturated, of an edge that is there
loaded_full : (g : Graph) (d : Decided) (packing : List Cut) (arc n : ℕ) (e : Edge) (state : EdgeState) → n ≡ arc / 2 →
    slice_get g.edges n ≡ Some e → slice_get (states_of g d) n ≡ Some state →
    is_saturated (costs_of g.edges (states_of g d) packing) arc ≡ true →
    (room_of state e ≡ Some (load packing e.a e.b)) ⊎ (room_of state e ≡ Some (load packing e.b e.a))
loaded_full g d packing arc n e state half at decided full =
    grind (
      arith,
      slice_get-costs_of g.edges (states_of g d) packing n e state,
      left_after-none,
      is_used_up-some,
      cases_eq (arc % 2) 0,
    )

-- An arc of which packed cuts leave nothing is one of an edge whose room one of its two loads fills.
pub saturated_edge : (g : Graph) (d : Decided) (packing : List Cut) → IsDecisionFor g d → (arc : ℕ) →
    is_saturated (costs_of g.edges (states_of g d) packing) arc ≡ true →
    (e : Edge) × (state : EdgeState) × (slice_get g.edges (arc / 2) ≡ Some e)
    × (slice_get (states_of g d) (arc / 2) ≡ Some state)
    × ((room_of state e ≡ Some (load packing e.a e.b)) ⊎ (room_of state e ≡ Some (load packing e.b e.a)))
saturated_edge g d packing size arc full =
    grind (
      arith,
      length-states_of g d size.edges,
      slice_get-get_or,
      loaded_full g d packing arc (arc / 2) (get_or g.edges (arc / 2) (record { a = 0; b = 0; length = 0 }))
          (get_or (states_of g d) (arc / 2) Undecided) refl,
      slice_get_past,
      length-costs_of g.edges (states_of g d) packing (length-states_of g d size.edges),
      cases_lt (arc / 2) (length g.edges),
    )

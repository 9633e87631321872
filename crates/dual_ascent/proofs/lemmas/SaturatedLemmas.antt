-- Arcs of which nothing is left are the saturated arcs.
use Rattle.std.proofs.Common.{ℕ, ◌≡◌, ◌+◌, ◌*◌, Bool, true, List, map, get_or, slice_get, Some, ◌↔◌, inl, inr, ⊎_elim, refl, sym, ap, ◌∙◌, arith}
use Rattle.std.specs.Option.{option_map}
use Rattle.std.proofs.lemmas.Option.{slice_get_within, slice_get-get_or, slice_get-map}
use Rattle.net_graph.specs.declared.edge.Edge.{Edge}
use Rattle.net_graph.specs.declared.state.EdgeState.TheVariants.{Undecided}
use Rattle.net_graph.specs.declared.packing.Cut.{Cut}
use Rattle.net_graph.specs.Arcs.{forward_arc, backward_arc}
use Rattle.net_graph.specs.Graph.{Graph}
use Rattle.net_graph.specs.Decision.{Decided, IsDecisionFor, states_of}
use Rattle.net_graph.specs.DecisionLaws.{length-states_of}
use Rattle.net_graph.specs.Search.{OpenStep}
use Rattle.net_graph.specs.Packing.{enters, load}
use Rattle.net_graph.specs.Saturation.{SaturatedStep}
use Rattle.dual_ascent.specs.declared.costs.EdgeCosts.{EdgeCosts}
use Rattle.dual_ascent.specs.Costs.{left_of, costs_of, is_used_up, is_saturated, Entering}
use Rattle.dual_ascent.proofs.lemmas.LoadLemmas.{left_after-same}
use Rattle.dual_ascent.specs.CostLaws.{left_after-none, slice_get-costs_of, is_used_up-some}

-- an edge's first arc is full where nothing is left of it
is_saturated-even : (costs : List EdgeCosts) (n : ℕ) (room : EdgeCosts) → slice_get costs n ≡ Some room → is_saturated costs (2 * n) ≡ is_used_up room.there
is_saturated-even costs n room at = grind arith

-- .. and so is its second
is_saturated-odd : (costs : List EdgeCosts) (n : ℕ) (room : EdgeCosts) → slice_get costs n ≡ Some room → is_saturated costs (2 * n + 1) ≡ is_used_up room.back
is_saturated-odd costs n room at = grind arith

-- an edge's first arc of which nothing is left may be walked
there_open : (edges : List Edge) (costs : List EdgeCosts) (n : ℕ) (e : Edge) (room : EdgeCosts) → slice_get edges n ≡ Some e → slice_get costs n ≡ Some room →
    room.there ≡ Some 0 → OpenStep edges (is_saturated costs) e.a e.b
there_open edges costs n e room at at_room none =
    (forward_arc n e, (n, e, at, inl refl), is_saturated-even costs n room at_room ∙ ap is_used_up none, refl, refl)

-- .. and so may its second
back_open : (edges : List Edge) (costs : List EdgeCosts) (n : ℕ) (e : Edge) (room : EdgeCosts) → slice_get edges n ≡ Some e → slice_get costs n ≡ Some room →
    room.back ≡ Some 0 → OpenStep edges (is_saturated costs) e.b e.a
back_open edges costs n e room at at_room none =
    (backward_arc n e, (n, e, at, inr refl), is_saturated-odd costs n room at_room ∙ ap is_used_up none, refl, refl)

-- arcs between the same vertices have the same load
load-ends : (packing : List Cut) (a b u v : ℕ) → a ≡ u → b ≡ v → Some (load packing a b) ≡ Some (load packing u v)
load-ends packing a b u v from to = ap (λ x. Some (load packing x b)) from ∙ ap (λ y. Some (load packing u y)) to

-- .. and may be walked alike
OpenStep-ends : (edges : List Edge) (opens : ℕ → Bool) (a b u v : ℕ) → a ≡ u → b ≡ v → OpenStep edges opens a b → OpenStep edges opens u v
OpenStep-ends edges opens a b u v from to (arc, is, is_open, leaves, comes) = (arc, is, is_open, leaves ∙ from, comes ∙ to)

-- a saturated arc may be walked
OpenStep-from_saturated : (g : Graph) (decision : Decided) (packing : List Cut) (u v : ℕ) → SaturatedStep g decision packing u v →
    OpenStep g.edges (is_saturated (costs_of g.edges (states_of g decision) packing)) u v
OpenStep-from_saturated g decision packing u v (n, e, state, at, decided, ends, fills) =
    grind (
      arith,
      slice_get-costs_of g.edges (states_of g decision) packing n e state,
      load-ends,
      OpenStep-ends,
      there_open g.edges (costs_of g.edges (states_of g decision) packing) n e (left_of e state packing),
      left_after-same,
      back_open g.edges (costs_of g.edges (states_of g decision) packing) n e (left_of e state packing),
    )

-- an arc that may be walked is saturated
Saturated-from_open : (g : Graph) (decision : Decided) (packing : List Cut) → IsDecisionFor g decision → (u v : ℕ) →
    OpenStep g.edges (is_saturated (costs_of g.edges (states_of g decision) packing)) u v → SaturatedStep g decision packing u v
Saturated-from_open g decision packing size u v (arc, (n, e, at, way), full, leaves, comes) =
    grind (
      arith,
      slice_get_within g.edges n e,
      length-states_of g decision size.edges,
      slice_get-get_or,
      slice_get-costs_of g.edges (states_of g decision) packing n e (get_or (states_of g decision) n Undecided),
      is_saturated-even,
      left_after-none,
      is_used_up-some,
      load-ends,
      is_saturated-odd,
    )

-- arcs may be walked where the costs show nothing left exactly where they are saturated
pub SaturatedStep-iff_open : (g : Graph) (decision : Decided) (packing : List Cut) → IsDecisionFor g decision → (u v : ℕ) →
    OpenStep g.edges (is_saturated (costs_of g.edges (states_of g decision) packing)) u v ↔ SaturatedStep g decision packing u v
SaturatedStep-iff_open g decision packing size u v = search (Saturated-from_open, OpenStep-from_saturated)

-- an arc that enters a set with nothing left may be walked
pub OpenStep-from_entering : (edges : List Edge) (costs : List EdgeCosts) (members : List Bool) → map (λ (room : EdgeCosts). room.edge) costs ≡ edges →
    Entering costs members 0 → (u : ℕ) × (v : ℕ) × OpenStep edges (is_saturated costs) u v × (enters members u v ≡ true)
OpenStep-from_entering edges costs members of (room, (k, below, is), ways) =
    let at_room : slice_get costs k ≡ Some room = slice_get-get_or costs k room below ∙ ap (λ x. Some x) is in
    let at : slice_get edges k ≡ Some room.edge = ap (λ es. slice_get es k) (sym of) ∙ slice_get-map (λ (room : EdgeCosts). room.edge) costs k ∙ ap (option_map (λ (room : EdgeCosts). room.edge)) at_room in
    ⊎_elim
    (λ (there : (enters members room.edge.a room.edge.b ≡ true) × (room.there ≡ Some 0)). (room.edge.a, room.edge.b, there_open edges costs k room.edge room at at_room there.1, there.0))
    (λ (back : (enters members room.edge.b room.edge.a ≡ true) × (room.back ≡ Some 0)). (room.edge.b, room.edge.a, back_open edges costs k room.edge room at at_room back.1, back.0))
    ways

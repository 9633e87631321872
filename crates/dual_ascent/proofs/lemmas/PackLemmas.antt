-- A packing stays feasible with one more cut that fits, and fewer arcs have room left.
use Rattle.std.proofs.Common.{ℕ, zero, suc, ◌≡◌, ◌*◌, ◌≤◌, ◌<◌, true, List, [], ◌∷◌, ◌++◌, map, length, slice_get, Contains, Option, Some, inl, inr, ap, ◌∙◌, arith}
use Rattle.std.proofs.lemmas.List.Elements.{All-push}
use Rattle.std.proofs.lemmas.List.Sums.{sum_by-cons}
use Rattle.std.proofs.lemmas.Option.{same_Some, slice_get_within, slice_get-get_or, get_or_from_slice_get}
use Rattle.net_graph.specs.declared.edge.Edge.{Edge}
use Rattle.net_graph.specs.declared.state.EdgeState.{EdgeState}
use Rattle.net_graph.specs.declared.packing.Cut.{Cut}
use Rattle.net_graph.specs.Graph.{Graph}
use Rattle.net_graph.specs.Decision.{Decided, states_of}
use Rattle.net_graph.specs.Packing.{enters, load, IsCut, IsWithinRoom, IsFeasible}
use Rattle.net_graph.specs.Packing.{room_of}
use Rattle.dual_ascent.specs.declared.costs.EdgeCosts.{EdgeCosts}
use Rattle.dual_ascent.specs.Costs.{left_after, weight_on, left_of, costs_of, lowered_by, unsaturated_arc, unsaturated_of, unsaturated, Entering}
use Rattle.dual_ascent.proofs.lemmas.LoadLemmas.{load-push}
use Rattle.dual_ascent.specs.CostLaws.{slice_get-costs_of}

-- so does an arc, whether it enters the cut or not
IsWithinRoom-push : (state : EdgeState) (e : Edge) (packing : List Cut) (cut : Cut) (u v : ℕ) → 0 < cut.weight → IsWithinRoom state e (load packing u v) →
    ((left : ℕ) → enters cut.members u v ≡ true → left_after (room_of state e) (load packing u v) ≡ Some left → cut.weight ≤ left) →
    IsWithinRoom state e (load (packing ++ cut ∷ []) u v)
IsWithinRoom-push state e packing cut u v some within fits = grind (arith, load-push)

-- a list has what stands at a place of it
Contains-from_slice_get : (costs : List EdgeCosts) (n : ℕ) (room : EdgeCosts) → slice_get costs n ≡ Some room → Contains costs room
Contains-from_slice_get costs n room at = (n, slice_get_within costs n room at, get_or_from_slice_get costs n room room at)

-- one more cut that is no heavier than what is left of the arcs that enter it
pub IsFeasible-push : (g : Graph) (decision : Decided) (packing : List Cut) (cut : Cut) → IsFeasible g decision packing →
    0 < cut.weight → IsCut g decision cut.members →
    ((left : ℕ) → Entering (costs_of g.edges (states_of g decision) packing) cut.members left → cut.weight ≤ left) → IsFeasible g decision (packing ++ cut ∷ [])
IsFeasible-push g decision packing cut feasible some is_cut fits = record {
  cuts = All-push (λ (c : Cut). (0 < c.weight) × IsCut g decision c.members) packing cut feasible.cuts (some, is_cut);
  room = λ n e state at decided.
      let within = feasible.room n e state at decided in
      let room : EdgeCosts = left_of e state packing in
      let found : Contains (costs_of g.edges (states_of g decision) packing) room = Contains-from_slice_get (costs_of g.edges (states_of g decision) packing) n room (slice_get-costs_of g.edges (states_of g decision) packing n e state at decided) in (
        IsWithinRoom-push state e packing cut e.a e.b some within.0 (λ left entered is. fits left (room, found, inl (entered, is))),
        IsWithinRoom-push state e packing cut e.b e.a some within.1 (λ left entered is. fits left (room, found, inr (entered, is))),
      );
}

-- an arc counts once at most
unsaturated_arc-le : (room : Option ℕ) → unsaturated_arc room ≤ 1
unsaturated_arc-le room = grind arith

-- a load leaves no room where there was none
unsaturated_arc-after : (room : Option ℕ) (amount : ℕ) → unsaturated_arc (left_after room amount) ≤ unsaturated_arc room
unsaturated_arc-after room amount = grind arith

-- one more cut leaves no more of an edge's arcs with room
unsaturated_of-lowered_by : (cut : Cut) (room : EdgeCosts) → unsaturated_of (lowered_by cut room) ≤ unsaturated_of room
unsaturated_of-lowered_by cut room = omega (arith, unsaturated_arc-after)

-- a cut leaves nothing of an arc that enters it and had its weight left
unsaturated_arc-entered : (cut : Cut) (room : Option ℕ) (u v : ℕ) → 0 < cut.weight → enters cut.members u v ≡ true → room ≡ Some cut.weight →
    unsaturated_arc (left_after room (weight_on cut u v)) < unsaturated_arc room
unsaturated_arc-entered cut room u v some entered is = grind arith

-- one more cut leaves no more arcs with room
unsaturated-map-le : (cut : Cut) (costs : List EdgeCosts) → unsaturated (map (lowered_by cut) costs) ≤ unsaturated costs
unsaturated-map-le cut [] = omega arith
unsaturated-map-le cut (room ∷ costs) =
    omega (arith, unsaturated_of-lowered_by, sum_by-cons, unsaturated-map-le cut costs)

-- .. and fewer, where there are fewer at one edge
unsaturated-map-lt : (cut : Cut) (costs : List EdgeCosts) (n : ℕ) (room : EdgeCosts) → slice_get costs n ≡ Some room →
    unsaturated_of (lowered_by cut room) < unsaturated_of room → unsaturated (map (lowered_by cut) costs) < unsaturated costs
unsaturated-map-lt cut [] n room at less = absurd cc
unsaturated-map-lt cut (first ∷ costs) zero room at less =
    grind (arith, same_Some first room, unsaturated-map-le cut costs, sum_by-cons unsaturated_of first costs, sum_by-cons unsaturated_of (lowered_by cut first) (map (lowered_by cut) costs))
unsaturated-map-lt cut (first ∷ costs) (suc n) room at less =
    omega (arith, unsaturated_of-lowered_by, sum_by-cons, unsaturated-map-lt cut costs n room at less)

-- a cut whose weight is what was left of an arc that enters it leaves fewer arcs with room
pub unsaturated-lowered_by : (cut : Cut) (costs : List EdgeCosts) → 0 < cut.weight → Entering costs cut.members cut.weight → unsaturated (map (lowered_by cut) costs) < unsaturated costs
unsaturated-lowered_by cut costs some (room, (k, below, is), ways) =
    unsaturated-map-lt cut costs k room (slice_get-get_or costs k room below ∙ ap (λ x. Some x) is) (grind (arith, unsaturated_arc-entered))

-- there are at most two arcs an edge
pub unsaturated-le : (costs : List EdgeCosts) → unsaturated costs ≤ 2 * length costs
unsaturated-le [] = omega arith
unsaturated-le (room ∷ costs) = omega (arith, unsaturated_arc-le room.there, unsaturated_arc-le room.back, unsaturated-le costs, sum_by-cons unsaturated_of room costs)

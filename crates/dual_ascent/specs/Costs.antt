-- What packed cuts leave of the room of a graph's arcs.
use Rattle.std.specs.Prelude.{ℕ, zero, suc, ◌≡◌, ◌+◌, ◌-◌, ◌/◌, ◌%◌, ◌==◌, ◌≤◌, Bool, true, false, List, [], ◌∷◌, map, sum_by, slice_get, Contains, Option, Some, None, ◌⊎◌, nat_le, min, if◌then◌else◌}
use Rattle.net_graph.specs.declared.edge.Edge.{Edge}
use Rattle.net_graph.specs.declared.state.EdgeState.{EdgeState}
use Rattle.net_graph.specs.declared.state.EdgeState.TheVariants.{Undecided, Inside, Outside}
use Rattle.net_graph.specs.declared.packing.Cut.{Cut}
use Rattle.net_graph.specs.Packing.{enters, load}
use Rattle.net_graph.specs.Packing.{room_of}
use Rattle.dual_ascent.specs.declared.costs.EdgeCosts.{EdgeCosts}

-- what is left of a room after a load: there is no such amount where the room has no limit or the load is above it
abbrev pub left_after : Option ℕ → ℕ → Option ℕ
left_after None amount = None
left_after (Some room) amount = if nat_le amount room then Some (room - amount) else None

-- the weight that a cut loads onto the arc from u to v
abbrev pub weight_on : Cut → ℕ → ℕ → ℕ
weight_on cut u v = if enters cut.members u v then cut.weight else 0

-- what a packing leaves of the room of an edge's two arcs
abbrev pub left_of : Edge → EdgeState → List Cut → EdgeCosts
left_of e state packing = record {
  edge = e;
  there = left_after (room_of state e) (load packing e.a e.b);
  back = left_after (room_of state e) (load packing e.b e.a);
}

-- .. of all arcs, by edges
abbrev pub costs_of : List Edge → List EdgeState → List Cut → List EdgeCosts
costs_of [] decision packing = []
costs_of (e ∷ edges) [] packing = []
costs_of (e ∷ edges) (state ∷ decision) packing = left_of e state packing ∷ costs_of edges decision packing

-- what one more cut leaves
abbrev pub lowered_by : Cut → EdgeCosts → EdgeCosts
lowered_by cut room = record {
  edge = room.edge;
  there = left_after room.there (weight_on cut room.edge.a room.edge.b);
  back = left_after room.back (weight_on cut room.edge.b room.edge.a);
}

-- what is left once a load was taken back; where there is no such amount there is none then
abbrev pub raised_after : Option ℕ → ℕ → Option ℕ
raised_after None amount = None
raised_after (Some left) amount = Some (left + amount)

-- what is left once a packed cut was taken back
abbrev pub raised_by : Cut → EdgeCosts → EdgeCosts
raised_by cut room = record {
  edge = room.edge;
  there = raised_after room.there (weight_on cut room.edge.a room.edge.b);
  back = raised_after room.back (weight_on cut room.edge.b room.edge.a);
}

-- what is left of an edge's arcs in a state: of an undecided edge what was left, else the whole room
abbrev pub left_in : EdgeCosts → EdgeState → EdgeCosts
left_in costs Undecided = costs
left_in costs Inside = left_of costs.edge Inside []
left_in costs Outside = left_of costs.edge Outside []

-- nothing is left
abbrev pub is_used_up : Option ℕ → Bool
is_used_up None = false
is_used_up (Some left) = left == 0

-- what is left of the arc of this number, where these are its edge's
abbrev pub cost_in : Option EdgeCosts → ℕ → Option ℕ
cost_in None arc = None
cost_in (Some costs) arc = if arc % 2 == 0 then costs.there else costs.back

-- what is left of the arc of this number
abbrev pub cost_of : List EdgeCosts → ℕ → Option ℕ
cost_of costs arc = cost_in (slice_get costs (arc / 2)) arc

-- with this left of the arc of this number
abbrev pub with_cost : EdgeCosts → ℕ → Option ℕ → EdgeCosts
with_cost costs arc cost = if arc % 2 == 0 then record costs { there = cost } else record costs { back = cost }

-- of the arc of this number nothing is left
abbrev pub is_saturated : List EdgeCosts → ℕ → Bool
is_saturated costs arc = is_used_up (cost_of costs arc)

-- the edges whose costs they are
abbrev pub edges_of : List EdgeCosts → List Edge
edges_of costs = map (λ c. c.edge) costs

-- 1 where some of an arc's room is left, else 0
abbrev pub unsaturated_arc : Option ℕ → ℕ
unsaturated_arc None = 0
unsaturated_arc (Some zero) = 0
unsaturated_arc (Some (suc left)) = 1

-- how many arcs of an edge have some of their room left
abbrev pub unsaturated_of : EdgeCosts → ℕ
unsaturated_of room = unsaturated_arc room.there + unsaturated_arc room.back

-- how many arcs have some of their room left
abbrev pub unsaturated : List EdgeCosts → ℕ
unsaturated costs = sum_by unsaturated_of costs

-- an arc of the edge enters the set, and this much of its room is left
abbrev pub EntersWith : List Bool → EdgeCosts → ℕ → Type 0
EntersWith members room left = ((enters members room.edge.a room.edge.b ≡ true) × (room.there ≡ Some left)) ⊎
    ((enters members room.edge.b room.edge.a ≡ true) × (room.back ≡ Some left))

-- an arc enters the set, and this much of its room is left
abbrev pub Entering : List EdgeCosts → List Bool → ℕ → Type 0
Entering costs members left = (room : EdgeCosts) × Contains costs room × EntersWith members room left

-- the lesser of two numbers, of which either may be missing
abbrev pub lesser_of : Option ℕ → Option ℕ → Option ℕ
lesser_of None other = other
lesser_of (Some m) None = Some m
lesser_of (Some m) (Some n) = Some (min m n)

-- the least number with P, if some number has P
abbrev pub IsLeastOf : (ℕ → Type 0) → Option ℕ → Type 0
IsLeastOf P None = (n : ℕ) → P n → ⊥
IsLeastOf P (Some least) = P least × ((n : ℕ) → P n → least ≤ n)

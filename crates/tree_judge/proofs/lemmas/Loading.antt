-- The loads of an edge's arcs: what one more cut adds to them.
use Rattle.std.proofs.Common.{ℕ, ◌≡◌, List, None, arith}
use Rattle.net_graph.specs.declared.edge.Edge.{Edge}
use Rattle.net_graph.specs.declared.state.EdgeState.{EdgeState}
use Rattle.net_graph.specs.declared.state.EdgeState.TheVariants.{Undecided, Inside, Outside}
use Rattle.net_graph.specs.declared.packing.Cut.{Cut}
use Rattle.net_graph.specs.Packing.{IsWithinRoom, load, room_of}
use Rattle.tree_judge.specs.Loads.{IsLoadKept, KeepsLoads}

-- ---- what is kept of a load

-- where there is none
kept_free : (state : EdgeState) (e : Edge) (amount kept : ℕ) → room_of state e ≡ None → IsLoadKept state e amount kept
kept_free state e amount kept is = rw is tt

-- a kept load is within the room
pub within_room : (state : EdgeState) (e : Edge) (amount kept : ℕ) → IsLoadKept state e amount kept →
    IsWithinRoom state e amount
within_room Undecided e amount kept keeps = keeps.1
within_room Inside e amount kept keeps = keeps.1
within_room Outside e amount kept keeps = tt

-- ---- one more cut

-- the edge has no room
pub passes_free : (state : EdgeState) (e : Edge) (packing : List Cut) (there back : ℕ) → room_of state e ≡ None →
    KeepsLoads state e packing there back
passes_free state e packing there back is =
    grind (arith, kept_free state e (load packing e.a e.b) there is, kept_free state e (load packing e.b e.a) back is)

use Rattle.std.proofs.Common.{ℕ, ◌<◌}
use Rattle.net_graph.specs.Feasible.{KeepsRoom}
use Rattle.net_graph.proofs.feasibility.edges_within_room.Given as goal

-- the arcs of the edges so far keep their room
abbrev pub invariant-loop-n : goal.invariant-loop-n
invariant-loop-n l = (k : ℕ) → k < l.n → KeepsRoom l.g l.d l.cuts k

use Rattle.std.proofs.Common.{◌≡◌, take}
use Rattle.net_graph.specs.Decision.{states_of}
use Rattle.net_graph.proofs.decision.Decision.states.Given as goal

-- the states of the edges so far
abbrev pub invariant-loop-e : goal.invariant-loop-e
invariant-loop-e l = l.states.items ≡ take l.e (states_of l.g l.self)

use Rattle.std.proofs.Common.{ℕ, ◌<◌, get_or}
use Rattle.net_graph.specs.Graph.{HasEndsBelow}
use Rattle.net_graph.specs.declared.edge.Edge.{Edge}
use Rattle.net_graph.proofs.graph.first_loose_end.Given as goal

abbrev pub invariant-loop-n : goal.invariant-loop-n
invariant-loop-n l = (k : ℕ) (d : Edge) → k < l.n → HasEndsBelow l.vertices (get_or l.edges k d)

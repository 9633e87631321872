use Rattle.std.proofs.Common.{◌≡◌, take}
use Rattle.dual_ascent.specs.Carried.{inside_edges}
use Rattle.net_graph.specs.Decision.{states_of}
use Rattle.dual_ascent.proofs.carried.list_inside.Given as goal

abbrev pub invariant-loop-n : goal.invariant-loop-n
invariant-loop-n l = l.list.items ≡ inside_edges (take l.n l.g.edges) (states_of l.g l.d)

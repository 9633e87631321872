use Rattle.std.proofs.Common.{◌≡◌, length, All}
use Rattle.graph_calls.proofs.described.packing.Given as goal

-- each cut so far has the graph's vertices
abbrev pub invariant-loop-line : goal.invariant-loop-line
invariant-loop-line l = All (λ c. length c.members ≡ l.fn.g.vertices) l.packing

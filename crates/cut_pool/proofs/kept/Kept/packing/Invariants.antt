use Rattle.std.proofs.Common.{◌≡◌, length, All}
use Rattle.cut_pool.proofs.kept.Kept.packing.Given as goal

abbrev pub invariant-loop-cut : goal.invariant-loop-cut
invariant-loop-cut l = All (λ c. length c.members ≡ l.graph.vertices) l.packing

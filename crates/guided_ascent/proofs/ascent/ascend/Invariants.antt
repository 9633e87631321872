use Rattle.std.proofs.Common.{◌≡◌, length, All}
use Rattle.guided_ascent.proofs.ascent.ascend.Given as goal

abbrev pub invariant-loop-step : goal.invariant-loop-step
invariant-loop-step l = All (λ c. length c.members ≡ l.graph.vertices) l.packing

use Rattle.std.proofs.Common.{◌≡◌, length}
use Rattle.guided_ascent.proofs.region.Region.members.Given as goal

abbrev pub invariant-loop-vertex : goal.invariant-loop-vertex
invariant-loop-vertex l = length l.members ≡ l.graph.vertices

use Rattle.std.proofs.Common.{take}
use Rattle.dual_ascent.specs.Active.{AreActive}
use Rattle.dual_ascent.proofs.active.active_vertices.Given as goal

abbrev pub invariant-loop-v : goal.invariant-loop-v
invariant-loop-v l = AreActive l.g (take l.v-index l.vertices) l.costs l.active.items

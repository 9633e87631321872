use Rattle.std.proofs.Common.{◌<◌, false, replicate}
use Rattle.net_graph.specs.Adds.{Adds}
use Rattle.net_graph.specs.Decision.{IsRequired}
use Rattle.dual_ascent.proofs.required.required_set.Given as goal

-- those so far
abbrev pub invariant-loop-v : goal.invariant-loop-v
invariant-loop-v l = Adds (λ v. (v < l.v) × IsRequired l.g l.d v) (replicate l.g.vertices false) l.set

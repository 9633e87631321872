-- No arc from the vertex is of an inside edge.
use Rattle.std.proofs.Common.{false, refl, arith}
use Rattle.std.proofs.lemmas.Bool.{both_ways}
use Rattle.net_graph.proofs.lemmas.DecisionLemmas.{none-ends_inside}
use Rattle.net_graph.proofs.decision.ends_inside.Goals as goal

pub returns : goal.returns
returns c = (
  λ yes. absurd (both_ways false refl yes),
  λ ends. absurd (none-ends_inside c.args.g.now c.args.d.now c.args.v c.arcs_from-arc-items.result.now c.loop-arc.arc-index
      c.arcs_from-arc-items.ensures.arcs (omega arith) c.loop-arc.invariant ends),
)

use Rattle.std.proofs.Common.{◌<◌, false, length, arith}
use Rattle.std.proofs.lemmas.Bool.{both_ways}
use Rattle.std.proofs.lemmas.List.{length-replicate}
use Rattle.branch.specs.SaturatedArcs.{IsUsedUpEdge}
use Rattle.branch.proofs.lemmas.SaturatedLemmas.{put_more, put_none, put_all}
use Rattle.branch.proofs.saturation.saturated_edges.Goals as goal
use Rattle.branch.proofs.saturation.saturated_edges.Goals.{then-is_used_up_edge, else-is_used_up_edge}

pub loop-n-preserved : goal.loop-n-preserved
loop-n-preserved c =
    let H = IsUsedUpEdge c.args.costs.now in
    let within : c.loop-n.n < length c.loop-n.set =
    omega (arith, c.loop-n.invariant.size, length-replicate (length c.args.g.now.edges) false, c.edge_count-n-end.ensures.count) in
    elim c.if-is_used_up_edge.branch [
      | then-is_used_up_edge w ↦
          rw (w.set-is, w.add.ensures) (put_more H _ c.loop-n.set c.loop-n.n within c.loop-n.invariant
          (c.is_used_up_edge.ensures.0 w.if-is_used_up_edge.true))
      | else-is_used_up_edge w ↦
          rw w.set-is (put_none H _ c.loop-n.set c.loop-n.n c.loop-n.invariant
          (λ has. both_ways c.is_used_up_edge.result w.if-is_used_up_edge.false (c.is_used_up_edge.ensures.1 has)))
    ]

pub returns-clause-saturated : goal.returns-clause-saturated
returns-clause-saturated c =
    put_all (IsUsedUpEdge c.args.costs.now) (length c.args.g.now.edges) c.loop-n.n c.loop-n.set (omega arith)
    (λ k (below, one). omega (arith, c.requires)) c.loop-n.invariant

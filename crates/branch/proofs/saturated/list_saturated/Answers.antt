use Rattle.std.proofs.Common.{◌∙◌, sym, arith}
use Rattle.std.proofs.lemmas.List.Elements.{All-push}
use Rattle.net_graph.specs.declared.arcs.Arc.{Arc}
use Rattle.branch.specs.SaturatedArcs.{IsOfSaturated}
use Rattle.branch.proofs.saturated.list_saturated.Goals as goal
use Rattle.branch.proofs.saturated.list_saturated.Goals.{then-not-has+then-is_open+in_ok-push, else-not-has}

pub loop-arc-preserved : goal.loop-arc-preserved
loop-arc-preserved c =
    let n = c.loop-arc.arc-index in
    let d : Arc = record { number = 0; from = 0; to = 0 } in
    let leaves = (c.arcs_from-arc-items.ensures.arcs.each n d c.loop-arc-test.true).1 in
    let (low, number) = c.arcs_from-arc-items.ensures.bounds n d c.loop-arc-test.true in
    elim c.if-not-has.branch [
      | then-not-has+then-is_open+in_ok-push w ↦
          rw (w.arcs-is, w.in_ok-push.ensures.items)
          (All-push (IsOfSaturated c.args.g.now c.args.costs.now) c.loop-arc.arcs.items _ c.loop-arc.invariant (record {
            from = omega (arith, leaves, c.requires.vertex);
            to = low;
            edge = omega (arith, number);
            saturated = sym w.is_open.ensures ∙ w.if-is_open.true;
          }))
      | else-not-has w ↦ rw w.arcs-is c.loop-arc.invariant
    ]

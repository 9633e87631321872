use Rattle.std.proofs.Common.{true, false, length, ap, ◌∙◌, length-set}
use Rattle.std.proofs.lemmas.List.{length-replicate}
use Rattle.std.proofs.lemmas.List.Elements.{All-nil}
use Rattle.branch.specs.SaturatedArcs.{IsOfSaturated}
use Rattle.branch.proofs.lemmas.SaturatedLemmas.{All-from_two}
use Rattle.branch.proofs.saturated.found_arcs.Goals as goal
use Rattle.branch.proofs.saturated.found_arcs.Goals.{then-place-len+in_ok-next+in_ok-add_new-2, else-place-len}

pub loop-place-init : goal.loop-place-init
loop-place-init c =
    let P = IsOfSaturated c.args.g.now c.args.costs.now in (
      c.in_ok-add_new.ensures.size ∙ ap length c.add.ensures ∙ length-set c.in_ok-found.found c.root.result true
          ∙ ap length c.in_ok-found.ensures ∙ length-replicate c.vertex_count.result false ∙ c.vertex_count.ensures.count,
      All-from_two P c.new-arcs.result.items c.deref.result.now c.add_new.new.by.items c.in_ok-add_new.ensures.among
          (rw c.new-arcs.ensures.items (All-nil P)) (rw c.deref.ensures.value c.in_ok-first.ensures),
    )

pub loop-place-preserved : goal.loop-place-preserved
loop-place-preserved c =
    let P = IsOfSaturated c.args.g.now c.args.costs.now in
    elim c.if-place-len.branch [
      | then-place-len+in_ok-next+in_ok-add_new-2 w ↦ (
        ap length w.found-is ∙ w.in_ok-add_new-2.ensures.size ∙ c.loop-place.invariant.0,
        rw w.arcs-is (All-from_two P c.loop-place.arcs.items w.deref-then-place-len.result.now _ w.in_ok-add_new-2.ensures.among
            c.loop-place.invariant.1 (rw w.deref-then-place-len.ensures.value w.in_ok-next.ensures)),
      )
      | else-place-len w ↦ (ap length w.found-is ∙ c.loop-place.invariant.0, rw w.arcs-is c.loop-place.invariant.1)
    ]

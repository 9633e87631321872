-- What the trail of a search that is over shows.
use Rattle.std.proofs.Common.{◌<◌, ◌^◌, sym, ◌∙◌, arith}
use Rattle.fst_concat.proofs.lemmas.Steps.{over_trail, over-splits, over-bounded, over-spent}
use Rattle.fst_concat.proofs.trail_search.finish.Goals as goal
use Rattle.fst_concat.proofs.trail_search.finish.Goals.{then-way-best, else-way-best}

pub of_steps-requires : goal.of_steps-requires
of_steps-requires c = over-splits _ _ _ _ _ _ (over_trail _ _ _ _ _ _ c.requires.under_way.completes)

pub returns-clause-kind : goal.returns-clause-kind
returns-clause-kind c =
    let over = over_trail c.args.points c.args.trees.now c.args.best.total c.args.way.low c.args.way.used c.args.way.steps.items c.requires.under_way.completes in
    elim c.if-way-best.branch [
      | then-way-best w ↦
          let below : c.args.way.low < c.args.best.total = w.if-way-best.true in
          let small : c.args.best.total < 2 ^ 128 = omega arith in
          rw (w.kind-is, w.of_steps.ensures)
          (sym (over-splits _ _ _ _ _ _ over) ∙ c.requires.under_way.spent (omega arith), over-spent _ _ _ _ _ _ over below small)
      | else-way-best w ↦ rw w.kind-is (c.closed_trail_is_least.ensures.bounded _ _ _ _ (over-bounded _ _ _ _ _ _ over (omega arith)))
    ]

use Rattle.std.proofs.Common.{rules}
use Rattle.branch.proofs.lemmas.SaturatedLemmas.{among_more}
use Rattle.branch.proofs.saturated.add_new.Goals as goal
use Rattle.branch.proofs.saturated.add_new.Goals.{then-not-has+in_ok-push, else-not-has}

pub loop-arc-preserved : goal.loop-arc-preserved
loop-arc-preserved c =
    elim c.if-not-has.branch [
      | then-not-has+in_ok-push w ↦ (
        search rules,
        rw (w.by-is, w.in_ok-push.ensures.items)
            (among_more c.args.by.now.items c.args.arcs.now c.loop-arc.by.items _ c.loop-arc.invariant.1 (search rules)),
      )
      | else-not-has w ↦ (rw w.found-is c.loop-arc.invariant.0, rw w.by-is c.loop-arc.invariant.1)
    ]

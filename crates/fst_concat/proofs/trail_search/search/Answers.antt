-- The choices that are judged next are the last of the pending ones.
use Rattle.std.proofs.Common.{refl}
use Rattle.fst_concat.proofs.lemmas.Ways.{IsUnderWay-pop}
use Rattle.fst_concat.proofs.trail_search.search.Goals as goal

pub step-requires-clause-under_way : goal.step-requires-clause-under_way
step-requires-clause-under_way c = IsUnderWay-pop c.args.points c.args.trees.now c.args.allowed c.loop-choices.best.total
    c.loop-choices.way _ c.in-Some.choices c.loop-choices.invariant.under_way c.in-Some.ensures.items refl refl refl

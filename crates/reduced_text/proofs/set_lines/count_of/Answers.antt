use Rattle.std.proofs.Common.{arith}
use Rattle.reduced_text.proofs.lemmas.Texts.{count_with, few_members, members_without}
use Rattle.reduced_text.proofs.set_lines.count_of.Goals as goal
use Rattle.reduced_text.proofs.set_lines.count_of.Goals.{then-has, else-has}

pub overflow_add-count : goal.overflow_add-count
overflow_add-count c = omega (arith, c.loop-e.invariant, few_members c.args.set.now c.loop-e.e)

pub loop-e-preserved : goal.loop-e-preserved
loop-e-preserved c =
    grind (arith, then-has, count_with, else-has, members_without, c.loop-e.e, c.loop-e-test.true, c.len-e-end.ensures, c.loop-e.invariant, c.has.ensures.within)

use Rattle.std.proofs.Common.{arith, length-append}
use Rattle.answer_text.proofs.lemmas.NetworkLemmas.{count-other, members-member}
use Rattle.answer_text.proofs.body.count_of.Goals as goal
use Rattle.answer_text.proofs.body.count_of.Goals.{then-has, else-has}

pub loop-e-preserved : goal.loop-e-preserved
loop-e-preserved c = grind (arith, then-has, members-member, length-append, else-has, count-other)

use Rattle.std.proofs.Common.{arith}
use Rattle.tree_judge.proofs.lemmas.Values.{least_with-lesser}
use Rattle.tree_judge.proofs.judge.Judge.end.Goals as goal

pub returns : goal.returns
returns c g s stands = grind (arith, least_with-lesser)

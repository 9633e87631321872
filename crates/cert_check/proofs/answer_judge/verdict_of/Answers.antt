use Rattle.std.proofs.Common.{arith}
use Rattle.tree_judge.specs.Ends as judged
use Rattle.cert_check.proofs.answer_judge.verdict_of.Goals as goal

pub returns-in-Ok : goal.returns-in-Ok
returns-in-Ok c claim found ends = grind arith

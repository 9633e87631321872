use Rattle.std.proofs.Common.{arith}
use Rattle.tree_judge.specs.Judged.{bound_found}
use Rattle.cert_check.proofs.answer_judge.finished.Goals as goal

pub returns : goal.returns
returns c N s stands =
    grind (arith, c.verdict_of-verdict.ensures s.claim (bound_found s) (c.end.ensures N.graph s stands), c.end.ensures N.graph s stands)

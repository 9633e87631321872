use Rattle.std.proofs.Common.{arith}
use Rattle.std.proofs.lemmas.Result.{on_ok_weaker}
use Rattle.fst_prune.proofs.lemmas.Firsts.{firsts_passed, firsts_added}
use Rattle.fst_prune.proofs.lemmas.Told.{none_of}
use Rattle.fst_prune.proofs.firsts.add_first.Goals as goal

pub returns : goal.returns
returns c =
    grind (arith, none_of c.get-2.result c.is_some.result c.is_some.ensures c.if-is_some.false, on_ok_weaker, firsts_added)

pub returns-then-is_some : goal.returns-then-is_some
returns-then-is_some c =
    grind (arith, firsts_passed)

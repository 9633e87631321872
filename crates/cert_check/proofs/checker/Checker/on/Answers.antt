use Rattle.std.proofs.Common.{[], arith}
use Rattle.std.proofs.lemmas.Grind.{merely}
use Rattle.cert_check.proofs.checker.Checker.on.Goals as goal

pub invariant_of-result : goal.invariant_of-result
invariant_of-result c = record {
  underway = record {
    sizes = c.judge_on.ensures.sizes;
    few = omega (arith, c.reader.ensures.count);
    reads = merely ([], [], c.reader.ensures);
  };
}

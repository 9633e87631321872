use Rattle.std.proofs.Common.{arith}
use Rattle.dual_ascent.proofs.lemmas.CarriedLemmas.{IsFeasible-unentered}
use Rattle.dual_ascent.proofs.carried.carry.Goals as goal

pub returns-then-len-edge_count-clause-feasible : goal.returns-then-len-edge_count-clause-feasible
returns-then-len-edge_count-clause-feasible c =
    grind (arith, IsFeasible-unentered c.args.g.now c.args.before.now c.args.now.now c.args.parent.now c.requires.one_more c.requires.feasible)

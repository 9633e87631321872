use Rattle.std.proofs.Math.Seq.{map-set_same}
use Rattle.std.proofs.lemmas.Bool.{cases_Bool}
use Rattle.std.proofs.Common.{arith, ◌%◌, eqb}
use Rattle.dual_ascent.proofs.lemmas.ArcLemmas.{cost_of-set_same, cost_of-set_other}
use Rattle.dual_ascent.proofs.costs.ReducedCosts.set_cost.Goals as goal

pub returns-clause-edges : goal.returns-clause-edges
returns-clause-edges c =
    grind (arith, cases_Bool (eqb (c.args.arc % 2) 0), map-set_same)

pub returns-clause-changed : goal.returns-clause-changed
returns-clause-changed c = grind (arith, cost_of-set_same)

pub returns-clause-others : goal.returns-clause-others
returns-clause-others c other apart = grind (arith, cost_of-set_other)

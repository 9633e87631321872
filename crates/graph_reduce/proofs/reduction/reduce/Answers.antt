use Rattle.std.proofs.Common.{arith}
use Rattle.graph_reduce.proofs.lemmas.FitLaw.{reductions_fit_lem}
use Rattle.graph_reduce.proofs.lemmas.LeftLaws.{laid_out}
use Rattle.graph_reduce.proofs.lemmas.LiftingLaw.{lifting_keeps_length_lem}
use Rattle.graph_reduce.proofs.lemmas.OneEnd.{one_reduction_lem}
use Rattle.graph_reduce.proofs.reduction.reduce.Goals as goal

pub invariant_of-result : goal.invariant_of-result
invariant_of-result c =
    grind (arith, laid_out c.args.g.now (c.in_ok-work.ensures.graph) c.in_ok-work.work c.in_ok-work.ensures.reduced)

pub returns-clause-reduction : goal.returns-clause-reduction
returns-clause-reduction c = grind arith

pub returns-clause-only : goal.returns-clause-only
returns-clause-only c = one_reduction_lem c.args.g.now _ (returns-clause-reduction c)

pub returns-clause-fits : goal.returns-clause-fits
returns-clause-fits c = reductions_fit_lem c.args.g.now _ c.in_ok-work.ensures.graph (returns-clause-reduction c)

pub returns-clause-networks : goal.returns-clause-networks
returns-clause-networks c =
    lifting_keeps_length_lem c.args.g.now _ c.in_ok-work.ensures.graph (returns-clause-reduction c)

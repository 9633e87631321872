-- The law is its lemma.
use Rattle.graph_reduce.proofs.lemmas.FitLaw.{reductions_fit_lem}
use Rattle.graph_reduce.proofs.laws.reductions_fit.Goals as goal

pub returns : goal.returns
returns c = reductions_fit_lem

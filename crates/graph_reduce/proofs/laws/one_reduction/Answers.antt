-- The law is its lemma.
use Rattle.graph_reduce.proofs.lemmas.OneEnd.{one_reduction_lem}
use Rattle.graph_reduce.proofs.laws.one_reduction.Goals as goal

pub returns : goal.returns
returns c = one_reduction_lem

-- The law is its lemma.
use Rattle.graph_reduce.proofs.lemmas.Sizes.{reductions_end_lem}
use Rattle.graph_reduce.proofs.laws.reductions_end.Goals as goal

pub returns : goal.returns
returns c = reductions_end_lem

-- The law is its lemma.
use Rattle.concatenation.proofs.lemmas.Packing.{partition_bound_lem}
use Rattle.concatenation.proofs.laws.partition_bound.Goals as goal

pub returns : goal.returns
returns c = partition_bound_lem

-- The law is its lemma.
use Rattle.graph_reduce.proofs.lemmas.LiftingLaw.{lifting_keeps_length_lem}
use Rattle.graph_reduce.proofs.laws.lifting_keeps_length.Goals as goal

pub returns : goal.returns
returns c = lifting_keeps_length_lem

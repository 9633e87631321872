-- The law is its lemma.
use Rattle.duality.proofs.DualityLemmas.{weak_duality_lem}
use Rattle.duality.proofs.weak_duality.Goals as goal

pub returns : goal.returns
returns c = weak_duality_lem

-- The law is its lemma.
use Rattle.concatenation.proofs.lemmas.Splits.{spent_trail_lem}
use Rattle.concatenation.proofs.laws.spent_trails_are_short.Goals as goal

pub returns : goal.returns
returns c = spent_trail_lem

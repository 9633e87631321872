-- The laws are their lemmas.
use Rattle.concatenation.proofs.lemmas.Ends.{bounded_trail_lem, closed_trail_lem}
use Rattle.concatenation.proofs.laws.closed_trail_is_least.Goals as goal

pub returns : goal.returns
returns c = record { bounded = bounded_trail_lem; closed = closed_trail_lem }

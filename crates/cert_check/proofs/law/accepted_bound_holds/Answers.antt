-- The law that bounds networks by accepted answers, from lifting.
use Rattle.cert_check.proofs.lemmas.BoundLemmas.{accepted_bound_holds_lem}
use Rattle.cert_check.proofs.law.accepted_bound_holds.Goals as goal

pub returns : goal.returns
returns c = accepted_bound_holds_lem c.tree_bounds_every_network.ensures

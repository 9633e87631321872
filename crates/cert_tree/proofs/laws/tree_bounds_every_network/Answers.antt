-- The law, from weak duality at the leaves.
use Rattle.cert_tree.proofs.lemmas.Lifting.{trees_bound_networks_lem}
use Rattle.cert_tree.proofs.laws.tree_bounds_every_network.Goals as goal

pub returns : goal.returns
returns c = trees_bound_networks_lem c.weak_duality.ensures

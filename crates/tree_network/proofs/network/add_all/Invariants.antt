use Rattle.net_graph.specs.Adds.{Adds}
use Rattle.tree_network.proofs.lemmas.Adding.{IsInBelow}
use Rattle.tree_network.proofs.network.add_all.Given as goal

-- the set's edges before this one are added
abbrev pub invariant-loop-e : goal.invariant-loop-e
invariant-loop-e l = Adds (IsInBelow l.from l.e) l.fn.to l.to

use Rattle.std.proofs.Common.{◌≡◌}
use Rattle.net_graph.proofs.lemmas.GrowthLemmas.{AddsTails}
use Rattle.net_graph.proofs.growth.add_tails.Given as goal

abbrev pub invariant-loop-arc : goal.invariant-loop-arc
invariant-loop-arc l = AddsTails l.fn.found.size l.arcs l.arc-index l.fn.found.order l.found.order × (l.found.size ≡ l.fn.found.size)

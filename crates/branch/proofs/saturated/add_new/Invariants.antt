use Rattle.std.proofs.Common.{◌≡◌, ◌⊎◌, length, Contains}
use Rattle.net_graph.specs.declared.arcs.Arc.{Arc}
use Rattle.branch.proofs.saturated.add_new.Given as goal

abbrev pub invariant-loop-arc : goal.invariant-loop-arc
invariant-loop-arc l = (length l.found ≡ length l.fn.found)
    × ((arc : Arc) → Contains l.by.items arc → Contains l.fn.by.items arc ⊎ Contains l.arcs arc)

use Rattle.std.proofs.Common.{◌≡◌, [], ◌∷◌, drop}
use Rattle.stp_format.specs.Located.{with_nodes}
use Rattle.stp_format.proofs.points.points_of_nodes.Given as goal

abbrev pub invariant-loop-node : goal.invariant-loop-node
invariant-loop-node l = with_nodes l.located [] (l.first ∷ l.others) ≡ with_nodes l.located l.points (drop l.node-index l.others)

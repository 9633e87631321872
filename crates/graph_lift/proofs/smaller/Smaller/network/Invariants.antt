use Rattle.std.proofs.Common.{◌≡◌, length}
use Rattle.graph_lift.proofs.smaller.Smaller.network.Given as goal

abbrev pub invariant-loop-number : goal.invariant-loop-number
invariant-loop-number l = length l.inside ≡ length l.self.edges

use Rattle.std.proofs.Common.{◌≡◌, length}
use Rattle.cut_pool.proofs.flood.Flood.go_on.Given as goal

abbrev pub invariant-loop-arc : goal.invariant-loop-arc
invariant-loop-arc l = length l.members ≡ length l.fn.members

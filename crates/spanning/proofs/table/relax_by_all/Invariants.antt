use Rattle.std.proofs.Common.{◌≡◌, ◌*◌, length}
use Rattle.spanning.specs.Bottleneck.{entry}
use Rattle.spanning.specs.ClosureLaws.{IsClosedBelow}
use Rattle.spanning.proofs.table.relax_by_all.Given as goal

abbrev pub invariant-loop-middle : goal.invariant-loop-middle
invariant-loop-middle l = (length l.lengths ≡ l.n * l.n) × IsClosedBelow l.points l.middle (entry l.lengths l.n)

use Rattle.std.proofs.Common.{length}
use Rattle.stp_format.specs.Left.{PassesOver}
use Rattle.stp_format.proofs.line.next_told.Given as goal

abbrev pub invariant-loop-bytes : goal.invariant-loop-bytes
invariant-loop-bytes l = PassesOver l.fn.text l.text

abbrev pub decreases-loop-bytes : goal.decreases-loop-bytes
decreases-loop-bytes l = length l.text.lines

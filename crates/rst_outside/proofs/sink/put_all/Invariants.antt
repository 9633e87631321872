use Rattle.std.proofs.Common.{◌≡◌, ℕ, List, ◌++◌, length}
use Rattle.rst_outside.specs.Sink.{Wrote}
use Rattle.rst_outside.proofs.sink.put_all.Given as goal

-- What is not left was written.
abbrev pub invariant-loop-rest : goal.invariant-loop-rest
invariant-loop-rest g l = (front : List ℕ) × (l.bytes ≡ front ++ l.rest) × Wrote (g.S.Sink.state l.fn.sink) front (g.S.Sink.state l.sink)

abbrev pub decreases-loop-rest : goal.decreases-loop-rest
decreases-loop-rest g l = length l.rest

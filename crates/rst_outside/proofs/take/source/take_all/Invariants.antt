use Rattle.std.proofs.Common.{◌≤◌, ◌-◌, vec_len}
use Rattle.rst_outside.specs.Source.{Came}
use Rattle.rst_outside.proofs.take.source.take_all.Given as goal

abbrev pub invariant-loop-bytes : goal.invariant-loop-bytes
invariant-loop-bytes g l = record {
  came : Came (g.S.Source.state l.fn.source).rest l.bytes.items (g.S.Source.state l.source).rest;
  within : vec_len l.bytes ≤ l.limit;
  count : (g.S.Source.state l.fn.source).faults ≤ (g.S.Source.state l.source).faults;
}

-- Each turn but the last brings bytes, and there are never more than are allowed.
abbrev pub decreases-loop-bytes : goal.decreases-loop-bytes
decreases-loop-bytes g l = l.limit - vec_len l.bytes

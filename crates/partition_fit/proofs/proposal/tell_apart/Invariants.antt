use Rattle.std.proofs.Common.{ℕ, ◌<◌, get_or}
use Rattle.partition_fit.proofs.proposal.tell_apart.Given as goal

abbrev pub invariant-loop-label : goal.invariant-loop-label
invariant-loop-label l = record {
  part : l.part < l.parts;
  below : (k : ℕ) → k < l.label-index → get_or l.labels k 0 < l.parts;
}

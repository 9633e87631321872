use Rattle.std.proofs.Common.{◌<◌, All}
use Rattle.partition_fit.proofs.proposal.merge_labels.Given as goal

abbrev pub invariant-loop-label : goal.invariant-loop-label
invariant-loop-label l = All (λ x. x < l.parts) l.labels

use Rattle.std.proofs.Common.{◌<◌, All}
use Rattle.partition_fit.proofs.proposal.numbers_of.Given as goal

abbrev pub invariant-loop-item : goal.invariant-loop-item
invariant-loop-item l = All (λ x. x < l.count) l.numbers.items

use Rattle.std.proofs.Common.{◌<◌, ◌≤◌, All, length}
use Rattle.partition_fit.specs.Proposal.{HasLabelsBelow}
use Rattle.partition_fit.proofs.proposal.levels_of.Given as goal

abbrev pub invariant-loop-rank : goal.invariant-loop-rank
invariant-loop-rank l = record {
  below : All (HasLabelsBelow l.parts) l.levels.items;
  few : length l.levels.items ≤ l.rank;
  now : All (λ x. x < l.parts) l.labels;
}

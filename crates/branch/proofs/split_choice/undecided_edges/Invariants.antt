use Rattle.branch.specs.Notes.{IsEdgeCandidate}
use Rattle.branch.specs.Candidates.{IsEdgeToSplit}
use Rattle.branch.proofs.lemmas.CandidateLemmas.{IsGathered}
use Rattle.branch.proofs.split_choice.undecided_edges.Given as goal

abbrev pub invariant-loop-e : goal.invariant-loop-e
invariant-loop-e l = IsGathered (IsEdgeCandidate l.g l.d l.network) (IsEdgeToSplit l.g l.d l.network) l.e l.list.items

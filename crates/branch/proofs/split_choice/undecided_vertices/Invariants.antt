use Rattle.branch.specs.Notes.{IsVertexCandidate}
use Rattle.branch.specs.Candidates.{IsVertexToSplit}
use Rattle.branch.proofs.lemmas.CandidateLemmas.{IsGathered}
use Rattle.branch.proofs.split_choice.undecided_vertices.Given as goal

abbrev pub invariant-loop-v : goal.invariant-loop-v
invariant-loop-v l = IsGathered (IsVertexCandidate l.g l.d l.network) (IsVertexToSplit l.g l.d l.network) l.v l.list.items

-- Gathering what a leaf may be split on.
use Rattle.std.proofs.Common.{ℕ, ◌≡◌, ◌+◌, ◌<◌, ◌≤◌, Bool, true, List, [], ◌∷◌, ◌++◌, length, All, arith, length-append}
use Rattle.std.proofs.lemmas.List.Elements.{All-push}
use Rattle.std.proofs.lemmas.Option.{slice_get_within}
use Rattle.net_graph.specs.Graph.{Graph}
use Rattle.net_graph.specs.Decision.{Decided}
use Rattle.dual_ascent.specs.declared.candidate.Candidate.{Candidate}
use Rattle.branch.specs.Candidates.{IsEdgeToSplit, HasNoEdgeToSplit}
use Rattle.branch.specs.Notes.{IsEdgeCandidate}

-- each of the list is a candidate, and where it is empty no number below a limit is sought
pub record IsGathered (IsCandidate : Candidate → Type 0) (IsSought : ℕ → Type 0) (seen : ℕ) (list : List Candidate) : Type 0 where
  pub each : All IsCandidate list
  pub every : list ≡ [] → (n : ℕ) → n < seen → IsSought n → ⊥

module _ (IsCandidate : Candidate → Type 0) (IsSought : ℕ → Type 0) where
  pub gathered_more : (seen : ℕ) (list : List Candidate) (c : Candidate) → IsGathered IsCandidate IsSought seen list → IsCandidate c →
      IsGathered IsCandidate IsSought (seen + 1) (list ++ c ∷ [])
  gathered_more seen list c so_far candidate =
      grind (arith, All-push IsCandidate list c so_far.each candidate, length-append list (c ∷ []))

pub no_edge : (g : Graph) (d : Decided) (set : List Bool) (seen : ℕ) (list : List Candidate) →
    IsGathered (IsEdgeCandidate g d set) (IsEdgeToSplit g d set) seen list → length set ≤ seen → list ≡ [] → HasNoEdgeToSplit g d set
no_edge g d set seen list so_far all empty = λ n sought.
    so_far.every empty n (let below : n < length set = slice_get_within set n true sought.within in omega arith) sought

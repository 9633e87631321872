-- What is known of a rule that chooses from a list of candidates.
use Rattle.std.specs.Prelude.{ℕ, ◌<◌, List, length}
use Rattle.std.specs.Borrow.{Bor}
use Rattle.dual_ascent.specs.declared.candidate.Candidate.{Candidate}

-- the rule may be called at every list with a candidate
abbrev pub IsCallableOnSome : (Bor (List Candidate) → Type 0) → Type 0
IsCallableOnSome may_choose = (list : Bor (List Candidate)) → 0 < length list.now → may_choose list

-- what it answers there is a place in the list
abbrev pub AnswersAPlace : (Bor (List Candidate) → ℕ → Type 0) → Type 0
AnswersAPlace chooses = (list : Bor (List Candidate)) (place : ℕ) → 0 < length list.now → chooses list place →
    place < length list.now

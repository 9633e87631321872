-- The verdict on an answer whose every line is right.
use Rattle.std.specs.Prelude.{ℕ, ◌≡◌}
use Rattle.tree_judge.specs.declared.claim.Claim.{Claim}
use Rattle.tree_judge.specs.Ends.{EndFault, IsRightEnd}
use Rattle.cert_check.specs.declared.verdict.Verdict.{Verdict}
use Rattle.cert_check.specs.declared.verdict.Verdict.TheVariants.{Accepted, Refused, TooLong}

-- the verdict on an answer with this claim, of whose tree's value and its length the lesser one was found
abbrev pub EndsWith : Claim → ℕ → Verdict → Type 0
EndsWith c found (Accepted length bound optimal) =
    IsRightEnd c found × (length ≡ c.length) × (bound ≡ c.bound) × (optimal ≡ c.optimal)
EndsWith c found (Refused cause) = EndFault c found cause
EndsWith c found TooLong = ⊥

-- What is said of a whole answer of which every line is right.
use Rattle.std.specs.Prelude.{ℕ, ◌≡◌, ◌≢◌, ◌==◌, Result, Ok, Err}
use Rattle.tree_judge.specs.declared.claim.Claim.{Claim}
use Rattle.tree_judge.specs.declared.cause.Cause.{Cause}
use Rattle.tree_judge.specs.declared.cause.Cause.TheVariants.{WrongBound, WrongStatus}

-- it says optimal exactly where the bound is the length
abbrev pub IsStatus : Claim → Type 0
IsStatus c = c.optimal ≡ (c.bound == c.length)

-- it says the bound that was found, and its status
pub record IsRightEnd (c : Claim) (found : ℕ) : Type 0 where
  pub bound : c.bound ≡ found
  pub status : IsStatus c

-- why it doesn't, where the lesser one of its tree's value and its length was found
abbrev pub EndFault : Claim → ℕ → Cause → Type 0
EndFault c found (WrongBound printed other) = (printed ≡ c.bound) × (other ≡ found) × (printed ≢ other)
EndFault c found WrongStatus = (c.bound ≡ found) × (c.optimal ≢ (c.bound == c.length))
EndFault c found cause = ⊥

-- the claim of the answer where it is right, and else why it is not
abbrev pub EndsWith : Claim → ℕ → Result Claim Cause → Type 0
EndsWith c found (Ok told) = IsRightEnd c found × (told ≡ c)
EndsWith c found (Err cause) = EndFault c found cause

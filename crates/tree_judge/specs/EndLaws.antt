-- A whole answer is right, or wrong for one cause.
use Rattle.std.proofs.Common.{ℕ, ◌≡◌, ◌≢◌, ◌⊎◌, inl, inr, eqb, refl, sym, ◌∙◌, arith}
use Rattle.tree_judge.specs.declared.claim.Claim.{Claim}
use Rattle.tree_judge.specs.declared.cause.Cause.{Cause}
use Rattle.tree_judge.specs.declared.cause.Cause.TheVariants.{WrongBound, WrongStatus}
use Rattle.tree_judge.specs.Ends.{EndFault, IsRightEnd}

-- the two causes
record Misbounds (c : Claim) (found : ℕ) (cause : Cause) : Type 0 where
  is : cause ≡ WrongBound c.bound found
  differ : c.bound ≢ found

record Misstates (c : Claim) (found : ℕ) (cause : Cause) : Type 0 where
  is : cause ≡ WrongStatus
  bound : c.bound ≡ found
  differ : c.optimal ≢ eqb c.bound c.length

end_causes : (c : Claim) (found : ℕ) (cause : Cause) → EndFault c found cause →
    Misbounds c found cause ⊎ Misstates c found cause
end_causes c found (WrongBound printed other) (printed_is, other_is, differ) =
    inl record { is = cc; differ = λ same. differ (printed_is ∙ same ∙ sym other_is) }
end_causes c found WrongStatus (bound, differ) = inr record { is = refl; bound = bound; differ = differ }
end_causes c found cause fault = absurd fault

-- an answer that is right has no fault
pub right_without_fault : {P : Type 0} (c : Claim) (found : ℕ) (cause : Cause) → IsRightEnd c found →
    EndFault c found cause → P
right_without_fault c found cause right fault = elim (end_causes c found cause fault) [
  | inl bounds ↦ absurd (bounds.differ right.bound)
  | inr states ↦ absurd (states.differ right.status)
]

-- and one that is not has one
pub same_end_fault : (c : Claim) (found : ℕ) (cause cause' : Cause) → EndFault c found cause →
    EndFault c found cause' → cause ≡ cause'
same_end_fault c found cause cause' fault fault' =
    grind (arith, end_causes c found cause fault, end_causes c found cause' fault')

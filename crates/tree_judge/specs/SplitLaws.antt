-- A split may stand where it does, or its line is wrong for one cause.
use Rattle.std.proofs.Common.{ℕ, ◌≡◌, ◌⊎◌, inl, inr, sym, ap, ◌∙◌, arith}
use Rattle.net_graph.specs.Graph.{Graph}
use Rattle.net_graph.specs.Decision.{Decided}
use Rattle.cert_tree.specs.declared.split.SplitOn.{SplitOn}
use Rattle.cert_tree.specs.declared.split.SplitOn.TheVariants as split
use Rattle.cert_tree.specs.Decisions.{IsUndecidedSplit}
use Rattle.tree_judge.specs.declared.cause.Cause.{Cause}
use Rattle.tree_judge.specs.declared.cause.Cause.TheVariants as cause
use Rattle.tree_judge.specs.Splits.{IsTooDeep, MaySplitOn, SplitOnFault}

-- the cause where it is decided
abbrev decided_cause : ℕ → SplitOn → Cause
decided_cause n (split.Edge edge) = cause.Decided n edge
decided_cause n (split.Vertex vertex) = cause.DecidedVertex n vertex

-- the two causes
on_causes : (g : Graph) (d : Decided) (splits : ℕ) (on : SplitOn) (n : ℕ) (c : Cause) → SplitOnFault g d splits on n c →
    ((c ≡ decided_cause n on) × (IsUndecidedSplit g d on → ⊥)) ⊎ ((c ≡ cause.TooDeep n) × IsTooDeep g d splits on)
on_causes g d splits on n (cause.Decided line edge) (is, same, decided) =
    inl (ap (λ l. cause.Decided l edge) is ∙ sym (ap (decided_cause n) same), decided)
on_causes g d splits on n (cause.DecidedVertex line vertex) (is, same, decided) =
    inl (ap (λ l. cause.DecidedVertex l vertex) is ∙ sym (ap (decided_cause n) same), decided)
on_causes g d splits on n (cause.TooDeep line) (is, deep) = inr (ap cause.TooDeep is, deep)
on_causes g d splits on n c fault = absurd fault

-- a split that may stand there has no fault
pub may_on_without_fault : {P : Type 0} (g : Graph) (d : Decided) (splits : ℕ) (on : SplitOn) (n : ℕ) (c : Cause) →
    MaySplitOn g d splits on → SplitOnFault g d splits on n c → P
may_on_without_fault g d splits on n c may fault = elim (on_causes g d splits on n c fault) [
  | inl (_, decided) ↦ absurd (decided may.undecided)
  | inr (_, deep) ↦ absurd (omega (arith, may.few, deep.many))
]

-- and one that may not has one
pub same_on_fault : (g : Graph) (d : Decided) (splits : ℕ) (on : SplitOn) (n : ℕ) (c c' : Cause) →
    SplitOnFault g d splits on n c → SplitOnFault g d splits on n c' → c ≡ c'
same_on_fault g d splits on n c c' fault fault' =
    grind (arith, on_causes g d splits on n c fault, on_causes g d splits on n c' fault')

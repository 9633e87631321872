-- Steps lead from a graph to one state where no rule applies, so that it has one reduction.
use Rattle.std.specs.Prelude.{ℕ, zero, suc, ◌≡◌, ◌<◌}
use Rattle.std.proofs.Common.{sym, ap, ◌∙◌, inl, inr, subst, arith}
use Rattle.std.proofs.lemmas.Bool.{cases_eq}
use Rattle.net_graph.specs.Graph.{Graph}
use Rattle.graph_reduce.specs.State.{State}
use Rattle.graph_reduce.specs.Step.{Rule, Applies, AreSteps, IsReducedTo, IsStep}
use Rattle.graph_reduce.specs.Reduction.{reduction_of}
use Rattle.graph_reduce.specs.OneReduction.{OneReduction}
use Rattle.graph_reduce.proofs.lemmas.OneStep.{one_step}

-- so many steps lead to one state
one_after : (n : ℕ) (old a b : State) → AreSteps n old a → AreSteps n old b → a ≡ b
one_after zero old a b is is' = sym is ∙ is'
one_after (suc n) old a b (mid, steps, step) (mid', steps', step') =
    one_step mid' a b (subst (λ s. IsStep s a) (one_after n old mid mid' steps steps') step) step'

-- fewer steps are followed by one more
goes_on : (n m : ℕ) (old b : State) → n < m → AreSteps m old b →
    (mid : State) × (next : State) × AreSteps n old mid × IsStep mid next
goes_on n zero old b below steps = absurd (omega (arith, below))
goes_on n (suc m) old b below (mid, steps, step) = elim (cases_eq n m) [
  | inl same ↦ (mid, b, subst (λ k. AreSteps k old mid) (sym same) steps, step)
  | inr apart ↦ goes_on n m old mid (omega (arith, below, apart)) steps
]

-- no step follows a state where no rule applies
not_more : (n m : ℕ) (old a b : State) → AreSteps n old a → ((rule : Rule) (at : ℕ) → ¬ Applies a rule at) →
    AreSteps m old b → n < m → ⊥
not_more n m old a b steps done more below =
    let on = goes_on n m old b below more in
    let step : IsStep a on.1 = subst (λ s. IsStep s on.1) (one_after n old on.0 a on.2 steps) on.3 in
    done step.rule step.at (on.1, step.takes)

one_end : (g : Graph) (a b : State) → IsReducedTo g a → IsReducedTo g b → a ≡ b
one_end g a b is is' = grind (arith, not_more, one_after)

-- the law
pub one_reduction_lem : OneReduction
one_reduction_lem g r is other is' =
    is'.is ∙ ap reduction_of (one_end g is'.state is.state is'.reduced is.reduced) ∙ sym is.is

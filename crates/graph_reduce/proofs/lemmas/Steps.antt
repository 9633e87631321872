-- Each step of a reduction keeps what joins the terminals, and so do all of them.
use Rattle.net_graph.specs.EntryLaws.{slice_get-replicate}
use Rattle.std.specs.Prelude.{ℕ, zero, suc, ◌≡◌, length}
use Rattle.std.proofs.Common.{refl, inl, inr, subst, arith}
use Rattle.net_graph.specs.Graph.{Graph}
use Rattle.graph_reduce.specs.State.{State}
use Rattle.graph_reduce.specs.Rules.{without_edges}
use Rattle.graph_reduce.specs.Step.{Rule, Takes, Applies, IsBefore, IsStep, AreSteps}
use Rattle.graph_reduce.specs.Step.Rule.{OneTerminal, Loop, Parallel, Leaf, Passed, TerminalLeaf}
use Rattle.graph_reduce.proofs.lemmas.Drops.{Keeps-all_edges, Keeps-loop, Keeps-lone_node, Keeps-leaf}
use Rattle.graph_reduce.proofs.lemmas.Fits.{Fits, Fits-step}
use Rattle.graph_reduce.proofs.lemmas.Forcing.{Keeps-forced}
use Rattle.graph_reduce.proofs.lemmas.Joining.{Keeps-joined}
use Rattle.graph_reduce.proofs.lemmas.Keeping.{Keeps, Keeps-same, Keeps-then}
use Rattle.graph_reduce.proofs.lemmas.Parallels.{Keeps-parallel}
use Rattle.graph_reduce.proofs.lemmas.Soundness.{IsSound, no_loop, IsSound-loop, IsSound-parallel, IsSound-lone_node, IsSound-leaf, IsSound-joined, IsSound-forced}

-- no earlier rule applies
abbrev pub NoneBefore : State → Rule → ℕ → Type 0
NoneBefore s rule at = (earlier : Rule) (there : ℕ) → IsBefore earlier there rule at → ¬ Applies s earlier there

step_keeps : (old new : State) → IsSound old → IsStep old new → Keeps old new × IsSound new
step_keeps old new sound step = by_rule step.rule step.at step.takes step.first
  where
    by_rule : (rule : Rule) (at : ℕ) → Takes rule at old new → NoneBefore old rule at → Keeps old new × IsSound new
    by_rule OneTerminal at drops first = (Keeps-all_edges old new drops, (grind (arith, slice_get-replicate)))
    by_rule Loop at drops first = (Keeps-loop at old new drops, IsSound-loop at old new sound drops)
    by_rule Parallel at drops first = (Keeps-parallel at old new drops, IsSound-parallel at old new sound drops)
    by_rule Leaf at (inl drops) first = (Keeps-lone_node at old new drops, IsSound-lone_node at old new sound drops)
    by_rule Leaf at (inr drops) first = (Keeps-leaf at old new drops, IsSound-leaf at old new sound drops)
    by_rule Passed at joins first =
        let none = λ (place : ℕ). first Loop place (inl (omega arith)) in
        let u_apart = no_loop old joins.earlier joins.x at joins.u none joins.earlier_at joins.earlier_ends in
        let w_apart = no_loop old joins.later joins.y at joins.w none joins.later_at joins.later_ends in
        (Keeps-joined at old new joins w_apart, IsSound-joined at old new sound joins u_apart w_apart)
    by_rule TerminalLeaf at forces first =
        let none = λ (place : ℕ). first Loop place (inl (omega arith)) in
        let apart = no_loop old forces.place forces.x at forces.other none forces.edge.at forces.edge.ends in
        let more = λ (is : length old.terminals ≡ 1). first OneTerminal 0 (inl (omega arith))
        (without_edges old, record { one = is; some = (forces.place, forces.x, forces.edge.at); becomes = refl }) in
        (Keeps-forced at old new forces sound.distinct more apart, IsSound-forced at old new sound forces apart)

pub steps_keep : (n : ℕ) (old new : State) → IsSound old → AreSteps n old new → Keeps old new × IsSound new
steps_keep zero old new sound is = subst (λ s. Keeps old s × IsSound s) is (Keeps-same old, sound)
steps_keep (suc n) old new sound (mid, steps, step) =
    let first = steps_keep n old mid sound steps in
    let last = step_keeps mid new first.1 step in
    (Keeps-then old mid new first.0 last.0, last.1)

-- .. and what holds of sizes and lengths
step_fits : (g : Graph) (old new : State) → Fits g old → IsStep old new → Fits g new
step_fits g old new fits step = Fits-step g step.rule step.at old new fits step.takes
    (λ later place. step.first Loop place (inl later))

pub steps_fit : (g : Graph) (n : ℕ) (old new : State) → Fits g old → AreSteps n old new → Fits g new
steps_fit g zero old new fits is = subst (Fits g) is fits
steps_fit g (suc n) old new fits (mid, steps, step) = step_fits g mid new (steps_fit g n old mid fits steps) step

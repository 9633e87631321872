-- A step passes or fails, in one way.
use Rattle.std.proofs.Common.{ℕ, ◌≡◌, Bool, List, Some, None, inl, inr, sym, ◌∙◌, subst, arith}
use Rattle.std.specs.Prelude.{Option}
use Rattle.net_graph.specs.Graph.{Graph}
use Rattle.tree_judge.specs.declared.cause.Cause.{Cause}
use Rattle.tree_judge.specs.declared.step.Step.{Step}
use Rattle.tree_judge.specs.declared.step.Step.TheVariants as step
use Rattle.tree_judge.specs.Cuts.{cut_of}
use Rattle.tree_judge.specs.Judged.{SoFar, Fails, IsNetworkRight, IsNetworkWrong, Passes, decision_due, with_edge}
use Rattle.tree_judge.specs.NetworkLaws.{measured_without_fault, same_network_fault}
use Rattle.tree_judge.specs.EdgeLaws.{follows_without_fault, same_edge_fault}
use Rattle.tree_judge.specs.SplitLaws.{may_on_without_fault, same_on_fault}
use Rattle.tree_judge.specs.CutLaws.{packs_without_fault, same_cut_fault}

-- what is told with a step that passes is determined
pub same_passed : (g : Graph) (s m m' : SoFar) (x : Step) (members : Option (List Bool)) → Passes g s x members m →
    Passes g s x members m' → m ≡ m'
same_passed g s m m' (step.Claims claim) members is is' = is ∙ sym is'
same_passed g s m m' (step.EdgeCount count) members passes passes' = passes.0 ∙ sym passes'.0
same_passed g s m m' (step.Edge e) members passes passes' = passes.1 ∙ sym passes'.1
same_passed g s m m' step.Tree members is is' = is ∙ sym is'
same_passed g s m m' (step.Split on) members passes passes' = passes.1 ∙ sym passes'.1
same_passed g s m m' (step.Leaf count) members is is' = is ∙ sym is'
same_passed g s m m' (step.Cut weight) None passes passes' = absurd passes
same_passed g s m m' (step.Cut weight) (Some set) passes passes' = passes.1 ∙ sym passes'.1
same_passed g s m m' step.End members is is' = is ∙ sym is'

-- edges that are right are not wrong
right_not_wrong : {P : Type 0} (g : Graph) (s : SoFar) (cause : Cause) → IsNetworkRight g s →
    IsNetworkWrong g s cause → P
right_not_wrong g s cause right wrong = measured_without_fault g s.claim.length s.network cause (right wrong.0) wrong.1

-- and are wrong for one cause
same_wrong : (g : Graph) (s : SoFar) (cause cause' : Cause) → IsNetworkWrong g s cause → IsNetworkWrong g s cause' →
    cause ≡ cause'
same_wrong g s cause cause' wrong wrong' = same_network_fault g s.claim.length s.network cause cause' wrong.1 wrong'.1

-- a step that passes does not fail
pub passes_not_fails : {P : Type 0} (g : Graph) (s m : SoFar) (n : ℕ) (x : Step) (members : Option (List Bool))
    (cause : Cause) (network : List Bool) → Passes g s x members m → Fails g s n x members cause network → P
passes_not_fails g s m n (step.Claims claim) members cause network passes fails = absurd fails
passes_not_fails g s m n (step.EdgeCount count) members cause network passes fails =
    right_not_wrong g (record s { edges_due = count }) cause (subst (IsNetworkRight g) passes.0 passes.1) fails.0
passes_not_fails g s m n (step.Edge e) members cause network passes (inl fails) =
    follows_without_fault g s.network e n cause passes.0 fails.0
passes_not_fails g s m n (step.Edge e) members cause network passes (inr (follows, wrong, _)) =
    right_not_wrong g (with_edge s e) cause (subst (IsNetworkRight g) passes.1 passes.2) wrong
passes_not_fails g s m n step.Tree members cause network passes fails = absurd fails
passes_not_fails g s m n (step.Split on) members cause network passes fails =
    may_on_without_fault g (decision_due g s) s.splits on n cause passes.0 fails.0
passes_not_fails g s m n (step.Leaf count) members cause network passes fails = absurd fails
passes_not_fails g s m n (step.Cut weight) None cause network passes fails = absurd fails
passes_not_fails g s m n (step.Cut weight) (Some set) cause network passes fails =
    packs_without_fault g (decision_due g s) s.cuts (cut_of weight set) n cause passes.0 fails.0
passes_not_fails g s m n step.End members cause network passes fails = absurd fails

-- the causes are one, and so are the edges that came before
abbrev pub IsSameFault : Cause → List Bool → Cause → List Bool → Type 0
IsSameFault cause network cause' network' = (cause ≡ cause') × (network ≡ network')

-- a step that fails does so for one cause, behind one set of edges
pub same_failed : (g : Graph) (s : SoFar) (n : ℕ) (x : Step) (members : Option (List Bool)) (cause cause' : Cause)
    (network network' : List Bool) → Fails g s n x members cause network → Fails g s n x members cause' network' →
    IsSameFault cause network cause' network'
same_failed g s n (step.EdgeCount count) members cause cause' network network' fails fails' =
    (same_wrong g (record s { edges_due = count }) cause cause' fails.0 fails'.0, fails.1 ∙ sym fails'.1)
same_failed g s n (step.Edge e) members cause cause' network network' (inl fails) (inl fails') =
    (same_edge_fault s.network e n cause cause' fails.0 fails'.0, fails.1 ∙ sym fails'.1)
same_failed g s n (step.Edge e) members cause cause' network network' (inl fails) (inr (follows', _, _)) =
    follows_without_fault g s.network e n cause follows' fails.0
same_failed g s n (step.Edge e) members cause cause' network network' (inr (follows, _, _)) (inl fails') =
    follows_without_fault g s.network e n cause' follows fails'.0
same_failed g s n (step.Edge e) members cause cause' network network' (inr fails) (inr fails') =
    (same_wrong g (with_edge s e) cause cause' fails.1 fails'.1, fails.2 ∙ sym fails'.2)
same_failed g s n (step.Split on) members cause cause' network network' fails fails' =
    (same_on_fault g (decision_due g s) s.splits on n cause cause' fails.0 fails'.0, fails.1 ∙ sym fails'.1)
same_failed g s n (step.Cut weight) (Some set) cause cause' network network' fails fails' =
    grind (arith, same_cut_fault g (decision_due g s) s.cuts (cut_of weight set) n cause cause' fails.0 fails'.0)
same_failed g s n x members cause cause' network network' fails fails' = absurd fails

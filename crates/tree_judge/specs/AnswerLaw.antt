-- Laws of the steps that tell an answer, over any graph.
use Rattle.std.specs.Prelude.{ℕ, ◌≡◌, Bool, List, Option}
use Rattle.net_graph.specs.Graph.{Graph}
use Rattle.net_graph.specs.Members.{members_of}
use Rattle.net_graph.specs.Network.{IsLowerBound}
use Rattle.cert_tree.specs.declared.split.SplitOn.{SplitOn}
use Rattle.cert_tree.specs.Tree.{Tree}
use Rattle.tree_judge.specs.declared.claim.Claim.{Claim}
use Rattle.tree_judge.specs.declared.cause.Cause.{Cause}
use Rattle.tree_judge.specs.declared.step.Step.{Step}
use Rattle.tree_judge.specs.Answers.{IsSound, TellsAnswer, answer_steps, bound_of}
use Rattle.tree_judge.specs.Judged.{Fails, Passes, SoFar, bound_found, nothing_told}
use Rattle.tree_judge.specs.Runs.{HasWeights, Runs}

-- a step passes or fails, and either in one way
pub record OneJudging : Type 0 where
  pub passed : (g : Graph) (s m m' : SoFar) (x : Step) (members : Option (List Bool)) → Passes g s x members m →
      Passes g s x members m' → m ≡ m'
  pub not_both : (g : Graph) (s m : SoFar) (n : ℕ) (x : Step) (members : Option (List Bool)) (cause : Cause)
      (network : List Bool) → Passes g s x members m → Fails g s n x members cause network → ⊥
  pub failed : (g : Graph) (s : SoFar) (n : ℕ) (x : Step) (members : Option (List Bool)) (cause cause' : Cause)
      (network network' : List Bool) → Fails g s n x members cause network →
      Fails g s n x members cause' network' → (cause ≡ cause') × (network ≡ network')

-- the steps of an answer, whose cuts have weights, pass where it is sound, and it is where they do
pub record StepsTellAnswers : Type 0 where
  pub sound : (g : Graph) (claim : Claim) (edges : List ℕ) (t : Tree SplitOn) (s : SoFar) →
      Runs g (nothing_told g) (answer_steps claim edges t) s → HasWeights t → TellsAnswer g claim edges t s
  pub passes : (g : Graph) (claim : Claim) (network : List Bool) (t : Tree SplitOn) → IsSound g claim network t →
      (s : SoFar) × Runs g (nothing_told g) (answer_steps claim (members_of network) t) s × (s.claim ≡ claim)
      × (bound_found s ≡ bound_of g t claim.length)

-- no network is shorter than the lesser one of a sound tree's value and the length
abbrev pub SoundBoundHolds : Type 0
SoundBoundHolds = (g : Graph) (claim : Claim) (network : List Bool) (t : Tree SplitOn) → IsSound g claim network t →
    IsLowerBound g (bound_of g t claim.length)

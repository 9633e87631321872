-- What a search found when it stops.
use Rattle.std.proofs.Common.{ℕ, ◌≡◌, ◌<◌, false, subst, arith}
use Rattle.net_graph.specs.Graph.{Graph}
use Rattle.net_graph.specs.Decision.{nothing_decided}
use Rattle.cert_tree.specs.TreeValue.{tree_value}
use Rattle.branch.specs.declared.solved.Solved.{Solved}
use Rattle.branch.specs.declared.step.Step.{Step}
use Rattle.branch.specs.declared.step.Step.TheVariants as step
use Rattle.cert_tree.specs.declared.split.SplitOn.{SplitOn}
use Rattle.cert_tree.specs.Tree.{Tree}
use Rattle.cert_tree.specs.Tree.Tree.{Leaf, Split}
use Rattle.cert_tree.specs.Preorder.{split_count}
use Rattle.branch.specs.declared.split_kind.SplitKind.{SplitKind}
use Rattle.branch.specs.Kinds.{AreOfKind}
use Rattle.branch.specs.Searching.{SearchState, OpensTo, TakesStep}
use Rattle.branch.specs.Solving.{IsSolved}

pub took_none : (old new : SearchState) (taken : Step) → TakesStep old new taken → taken ≡ step.Settled → new ≡ old
took_none old new taken takes is = (subst (λ (s : Step). TakesStep old new s) is takes).1

pub took_split : (old new : SearchState) (taken : Step) → TakesStep old new taken → taken ≡ step.Split → OpensTo old new
took_split old new taken takes is = subst (λ (s : Step). TakesStep old new s) is takes

pub solved_of : (s : SearchState) (g : Graph) (first_length : ℕ) (solved : Solved) → s.graph ≡ g → s.first_length ≡ first_length →
    IsSolved s.graph s.first_length solved → IsSolved g first_length solved
solved_of s g first_length solved graph first holds = grind arith

module _ (g : Graph) (first_length : ℕ) (solved : Solved) (holds : IsSolved g first_length solved) where
  -- so it is below it where the answer isn't optimal
  pub below_length : solved.optimal ≡ false → tree_value g (nothing_decided g) solved.tree < solved.length
  below_length stopped = grind arith

-- a tree of one leaf has only splits of any kind
pub no_split_of_kind : (asked : SplitKind) (tree : Tree SplitOn) → split_count tree ≡ 0 → AreOfKind asked tree
no_split_of_kind asked (Leaf cuts) none = λ _. tt
no_split_of_kind asked (Split on outside inside) none = absurd (omega (arith, none))

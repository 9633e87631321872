-- The steps that tell an answer, and when what it says of its network and its tree is right.
use Rattle.std.specs.Prelude.{ℕ, ◌≡◌, ◌≤◌, min, Bool, List, [], ◌∷◌, ◌++◌, length, None}
use Rattle.net_graph.specs.Graph.{Graph}
use Rattle.net_graph.specs.Members.{members_of}
use Rattle.net_graph.specs.Network.{IsNetwork, length_of}
use Rattle.net_graph.specs.Decision.{nothing_decided}
use Rattle.cert_tree.specs.declared.split.SplitOn.{SplitOn}
use Rattle.cert_tree.specs.Tree.{Tree}
use Rattle.cert_tree.specs.Preorder.{split_count}
use Rattle.cert_tree.specs.TreeValue.{IsValidTree, tree_value}
use Rattle.tree_judge.specs.declared.claim.Claim.{Claim}
use Rattle.tree_judge.specs.declared.step.Step.TheVariants as step
use Rattle.tree_judge.specs.Judged.{SoFar, bound_found}
use Rattle.tree_judge.specs.Runs.{StepTold, edge_steps, tree_steps}

-- what is claimed, the edges by their numbers, and the tree
abbrev pub answer_steps : Claim → List ℕ → Tree SplitOn → List StepTold
answer_steps claim edges tree =
    (step.Claims claim, None) ∷ (step.EdgeCount (length edges), None)
    ∷ (edge_steps edges ++ (step.Tree, None) ∷ (tree_steps tree ++ (step.End, None) ∷ []))

-- the edges are a network of the claimed length, and the tree has at most 255 splits and is valid where nothing is
-- decided
pub record IsSound (g : Graph) (claim : Claim) (network : List Bool) (tree : Tree SplitOn) : Type 0 where
  pub size : length network ≡ length g.edges
  pub joins : IsNetwork g network
  pub plain_length : claim.length ≡ length_of g network
  pub few : split_count tree ≤ 255
  pub valid : IsValidTree g (nothing_decided g) tree

-- the lesser one of a tree's value and a length
abbrev pub bound_of : Graph → Tree SplitOn → ℕ → ℕ
bound_of g tree length = min (tree_value g (nothing_decided g) tree) length

-- what stands behind the steps of an answer: its claim, its edges, what they say, and the bound that was found
pub record TellsAnswer (g : Graph) (claim : Claim) (edges : List ℕ) (tree : Tree SplitOn) (s : SoFar) : Type 0 where
  pub says : s.claim ≡ claim
  pub edges_are : members_of s.network ≡ edges
  pub sound : IsSound g claim s.network tree
  pub found : bound_found s ≡ bound_of g tree claim.length

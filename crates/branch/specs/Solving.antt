-- What a search tells.
use Rattle.std.specs.Prelude.{ℕ, ◌≡◌, ◌+◌, ◌*◌, ◌^◌, ◌≤◌, ◌↔◌, length, min, All, IsTrue}
use Rattle.net_graph.specs.Graph.{Graph}
use Rattle.net_graph.specs.Network.{IsLowerBound, length_of}
use Rattle.net_graph.specs.Decision.{nothing_decided}
use Rattle.net_graph.specs.Saturation.{IsMaximal}
use Rattle.cert_tree.specs.Preorder.{packings_of}
use Rattle.cert_tree.specs.TreeValue.{IsValidTree, tree_value}
use Rattle.branch.specs.declared.solved.Solved.{Solved}
use Rattle.branch.specs.declared.split_kind.SplitKind.{SplitKind}
use Rattle.branch.specs.declared.split_kind.SplitKind.TheVariants as kind
use Rattle.branch.specs.Leaves.{leaves_of}
use Rattle.branch.specs.States.{IsNetworkOf, IsOpenLeaf}
use Rattle.branch.specs.Runs.{EndsRunOfOpenings}

-- What a search tells of a graph is true: the network with its length, which is no longer than a first length;
-- a tree that is valid where nothing is decided; the bound, which is the lesser of the tree's value and the
-- length, and than which no network is shorter; and whether the bound is the length. Each leaf has few cuts,
-- and one whose value is below the length is maximal. The network and the tree end a run of openings whose
-- first network is no longer than the first length.
pub record IsSolved (g : Graph) (first_length : ℕ) (solved : Solved) : Type 0 where
  pub network_of : IsNetworkOf g solved.network
  pub length_is : solved.length ≡ length_of g solved.network
  pub no_longer : solved.length ≤ first_length
  pub valid : IsValidTree g (nothing_decided g) solved.tree
  pub bound : solved.bound ≡ min (tree_value g (nothing_decided g) solved.tree) solved.length
  pub optimal : IsTrue solved.optimal ↔ (solved.bound ≡ solved.length)
  pub lower : IsLowerBound g solved.bound
  pub cuts : All (λ packing. length packing ≤ 4 * length g.edges + 1) (packings_of solved.tree)
  pub maximal : All (λ leaf. IsOpenLeaf g solved.length leaf → IsMaximal g leaf.decision leaf.packing)
      (leaves_of (nothing_decided g) solved.tree)
  pub run : EndsRunOfOpenings g first_length solved.network solved.tree

-- in how many ways all that the kind may split on can be decided
abbrev pub ways_of : SplitKind → Graph → ℕ
ways_of kind.Edges g = 2 ^ length g.edges
ways_of kind.Vertices g = 2 ^ (length g.edges + g.vertices)

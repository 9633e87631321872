-- Plain openings: each replaces the leaf that is open next by a split on what a kind asks for.
use Rattle.std.specs.Prelude.{ℕ, zero, suc, ◌≡◌, ◌<◌, ◌≤◌, Bool, List, slice_get, Some, All, take}
use Rattle.net_graph.specs.Graph.{Graph}
use Rattle.net_graph.specs.Network.{length_of}
use Rattle.net_graph.specs.Decision.{nothing_decided}
use Rattle.cert_tree.specs.declared.split.SplitOn.{SplitOn}
use Rattle.cert_tree.specs.Tree.{Tree}
use Rattle.cert_tree.specs.Preorder.{split_count}
use Rattle.cert_tree.specs.TreeValue.{tree_value}
use Rattle.branch.specs.declared.split_kind.SplitKind.{SplitKind}
use Rattle.branch.specs.Candidates.{IsCandidate}
use Rattle.branch.specs.Leaves.{DecidedLeaf, leaves_of}
use Rattle.branch.specs.Openings.{IsOpening}
use Rattle.branch.specs.States.{IsOpenLeaf, IsSameOrShorter, IsShownBy, leaf_value}

-- The leaf at the place is the one that is open next: its value is below the network's length, no leaf's value is less,
-- and each leaf before it in preorder has a greater one.
pub record IsOpenNext (g : Graph) (network : List Bool) (tree : Tree SplitOn) (place : ℕ) : Type 0 where
  pub leaf : DecidedLeaf
  pub at : slice_get (leaves_of (nothing_decided g) tree) place ≡ Some leaf
  pub below : IsOpenLeaf g (length_of g network) leaf
  pub least : leaf_value g leaf ≡ tree_value g (nothing_decided g) tree
  pub earlier : All (λ other. tree_value g (nothing_decided g) tree < leaf_value g other)
      (take place (leaves_of (nothing_decided g) tree))

-- A plain opening of a kind: the leaf that is open next is split on what the kind asks of a network that the leaf
-- shows. On a tie the older network stays.
pub record IsPlainOpening (asked : SplitKind) (g : Graph) (network later_network : List Bool)
    (tree later_tree : Tree SplitOn) : Type 0 where
  pub opening : IsOpening g network later_network tree later_tree
  pub next : IsOpenNext g network tree opening.place
  pub set : List Bool
  pub shown : IsShownBy g opening.leaf set
  pub candidate : IsCandidate asked g opening.leaf.decision set opening.on
  pub network_is : IsSameOrShorter g network later_network

-- So many plain openings of the kind lead from a network and a tree to others.
abbrev pub LeadsInOpenings : SplitKind → Graph → List Bool → Tree SplitOn → ℕ → List Bool → Tree SplitOn → Type 0
LeadsInOpenings asked g network tree zero later later_tree = (later ≡ network) × (later_tree ≡ tree)
LeadsInOpenings asked g network tree (suc n) later later_tree =
    (before : List Bool) × (before_tree : Tree SplitOn) × LeadsInOpenings asked g network tree n before before_tree
    × IsPlainOpening asked g before later before_tree later_tree

-- plain openings of the kind lead from the one to the other: none, or some
abbrev pub LeadsByOpenings : SplitKind → Graph → List Bool → Tree SplitOn → List Bool → Tree SplitOn → Type 0
LeadsByOpenings asked g network tree later later_tree =
    (n : ℕ) × LeadsInOpenings asked g network tree n later later_tree

-- Plain openings of the kind lead to them from a tree of one leaf and a network that is no longer than a first length.
pub record EndsPlainOpenings (asked : SplitKind) (g : Graph) (first_length : ℕ) (network : List Bool)
    (tree : Tree SplitOn) : Type 0 where
  pub first : List Bool
  pub leaf : Tree SplitOn
  pub no_longer : length_of g first ≤ first_length
  pub one_leaf : split_count leaf ≡ 0
  pub plain : LeadsByOpenings asked g first leaf network tree

-- How a search in a graph ends.
use Rattle.std.specs.Prelude.{ℕ, ◌≡◌, ◌+◌, ◌*◌, ◌<◌, ◌≤◌, ◌==◌, Bool, List, length, min, All}
use Rattle.net_graph.specs.Graph.{Graph}
use Rattle.net_graph.specs.Network.{IsLowerBound, length_of}
use Rattle.net_graph.specs.Decision.{nothing_decided}
use Rattle.net_graph.specs.Saturation.{IsMaximal}
use Rattle.cert_tree.specs.declared.split.SplitOn.{SplitOn}
use Rattle.cert_tree.specs.Tree.{Tree}
use Rattle.cert_tree.specs.Preorder.{packings_of, split_count}
use Rattle.cert_tree.specs.TreeValue.{IsValidTree, tree_value}
use Rattle.branch.specs.declared.solved.Solved.{Solved}
use Rattle.branch.specs.declared.split_kind.SplitKind.{SplitKind}
use Rattle.branch.specs.Kinds.{SplitsVertices}
use Rattle.branch.specs.Leaves.{leaves_of}
use Rattle.branch.specs.PlainOpenings.{LeadsByOpenings}
use Rattle.branch.specs.States.{IsNetworkOf, IsOpenLeaf}
use Rattle.branch.specs.Runs.{EndsRunOfOpenings}

-- the value of a tree where nothing is decided
abbrev pub value_on : Graph → Tree SplitOn → ℕ
value_on g tree = tree_value g (nothing_decided g) tree

-- the bound that a tree gives beside a network: the lesser of its value and the network's length
abbrev pub bound_of : Graph → List Bool → Tree SplitOn → ℕ
bound_of g network tree = min (value_on g tree) (length_of g network)

-- A network and a tree come by plain openings of a kind from others, which end a run of openings whose first network is
-- no longer than a first length, and each of whose splits is on a vertex: such splits are made before plain ones.
pub record EndsByKind (g : Graph) (asked : SplitKind) (first_length : ℕ) (network : List Bool)
    (tree : Tree SplitOn) : Type 0 where
  pub before : List Bool
  pub before_tree : Tree SplitOn
  pub run : EndsRunOfOpenings g first_length before before_tree
  pub vertices : SplitsVertices before_tree
  pub plain : LeadsByOpenings asked g before before_tree network tree

-- A network and a tree of cuts as a search of at most so many openings may end with them whose plain splits are of a
-- kind. The tree is valid where nothing is decided, and no network is shorter than the bound that it gives. It has as
-- many splits as openings are allowed where its value is below the network's length, and never more. Each leaf has few
-- cuts, and one whose value is below the length is maximal. Network and tree end a run of openings whose first network
-- is no longer than a first length, and behind splits on vertices its openings are plain ones of the kind.
pub record IsSearched (g : Graph) (asked : SplitKind) (openings first_length : ℕ) (network : List Bool)
    (tree : Tree SplitOn) : Type 0 where
  pub network_of : IsNetworkOf g network
  pub valid : IsValidTree g (nothing_decided g) tree
  pub bounds : IsLowerBound g (bound_of g network tree)
  pub few : split_count tree ≤ openings
  pub stopped : value_on g tree < length_of g network → split_count tree ≡ openings
  pub cuts : All (λ packing. length packing ≤ 4 * length g.edges + 1) (packings_of tree)
  pub maximal : All (λ leaf. IsOpenLeaf g (length_of g network) leaf → IsMaximal g leaf.decision leaf.packing)
      (leaves_of (nothing_decided g) tree)
  pub run : EndsRunOfOpenings g first_length network tree
  pub by_kind : EndsByKind g asked first_length network tree

-- What a search of at most so many openings found is told as it is, and the network is no longer than a first length.
pub record IsTold (g : Graph) (asked : SplitKind) (openings first_length : ℕ) (solved : Solved) : Type 0 where
  pub searched : IsSearched g asked openings first_length solved.network solved.tree
  pub length : solved.length ≡ length_of g solved.network
  pub bound : solved.bound ≡ bound_of g solved.network solved.tree
  pub optimal : solved.optimal ≡ (solved.bound == solved.length)
  pub no_longer : solved.length ≤ first_length

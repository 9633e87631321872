-- The states of a search: a network with a certificate tree.
use Rattle.std.specs.Prelude.{ℕ, ◌≡◌, ◌<◌, ◌≤◌, ◌⊎◌, Bool, true, List, length, slice_get, Some, All}
use Rattle.net_graph.specs.declared.packing.Cut.{Cut}
use Rattle.net_graph.specs.Graph.{Graph}
use Rattle.net_graph.specs.Network.{IsNetwork, length_of}
use Rattle.net_graph.specs.Decision.{Decided, nothing_decided}
use Rattle.net_graph.specs.Packing.{packing_value}
use Rattle.net_graph.specs.Saturation.{IsMaximal}
use Rattle.branch.specs.SaturatedArcs.{HasSaturatedArc}
use Rattle.cert_tree.specs.declared.split.SplitOn.{SplitOn}
use Rattle.cert_tree.specs.Tree.{Tree}
use Rattle.cert_tree.specs.TreeValue.{IsValidTree}
use Rattle.branch.specs.Leaves.{DecidedLeaf, leaves_of}

-- the edge set is a network of the graph
pub record IsNetworkOf (g : Graph) (set : List Bool) : Type 0 where
  pub size : length set ≡ length g.edges
  pub joins : IsNetwork g set

-- each edge of the set has a saturated arc
pub record AreSaturated (g : Graph) (d : Decided) (packing : List Cut) (set : List Bool) : Type 0 where
  pub size : length set ≡ length g.edges
  pub arcs : (n : ℕ) → slice_get set n ≡ Some true → HasSaturatedArc g d packing n

-- the leaf is maximal, and the set is a network whose edges each have a saturated arc there
pub record IsShownBy (g : Graph) (leaf : DecidedLeaf) (set : List Bool) : Type 0 where
  pub maximal : IsMaximal g leaf.decision leaf.packing
  pub network_of : IsNetworkOf g set
  pub arcs : AreSaturated g leaf.decision leaf.packing set

-- the later network is the same one or a shorter one
abbrev pub IsSameOrShorter : Graph → List Bool → List Bool → Type 0
IsSameOrShorter g network later = (later ≡ network) ⊎ (length_of g later < length_of g network)

-- the value of a leaf
abbrev pub leaf_value : Graph → DecidedLeaf → ℕ
leaf_value g leaf = packing_value g leaf.decision leaf.packing

-- A leaf that can be opened: its packing is maximal, and the lengths of edges with a saturated arc sum to at
-- least the length.
pub record IsReadyLeaf (g : Graph) (length : ℕ) (leaf : DecidedLeaf) : Type 0 where
  pub maximal : IsMaximal g leaf.decision leaf.packing
  pub saturated : List Bool
  pub arcs : AreSaturated g leaf.decision leaf.packing saturated
  pub long : length ≤ length_of g saturated

-- the leaf is open for a length, since its value is below it
abbrev pub IsOpenLeaf : Graph → ℕ → DecidedLeaf → Type 0
IsOpenLeaf g length leaf = leaf_value g leaf < length

-- A state of a search: a network, and a tree that is valid where nothing is decided. Each leaf whose value is
-- below the network's length can be opened.
pub record IsState (g : Graph) (network : List Bool) (tree : Tree SplitOn) : Type 0 where
  pub network_of : IsNetworkOf g network
  pub valid : IsValidTree g (nothing_decided g) tree
  pub leaves : All (λ leaf. IsOpenLeaf g (length_of g network) leaf → IsReadyLeaf g (length_of g network) leaf)
      (leaves_of (nothing_decided g) tree)

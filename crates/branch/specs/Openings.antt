-- Openings: the steps of a search, each of which replaces a leaf by a split with two leaves.
use Rattle.std.specs.Prelude.{ℕ, ◌≡◌, ◌≤◌, ◌⊎◌, Bool, List, slice_get, Some}
use Rattle.net_graph.specs.declared.edge.Edge.{Edge}
use Rattle.net_graph.specs.declared.packing.Cut.{Cut}
use Rattle.net_graph.specs.Graph.{Graph}
use Rattle.net_graph.specs.Network.{length_of}
use Rattle.net_graph.specs.Decision.{Decided, IsUndecided, IsVertexUndecided, nothing_decided}
use Rattle.dual_ascent.specs.Ascending.{BeginsWith}
use Rattle.dual_ascent.specs.Carried.{carried}
use Rattle.branch.specs.SaturatedArcs.{HasSaturatedArc}
use Rattle.cert_tree.specs.declared.split.SplitOn.{SplitOn}
use Rattle.cert_tree.specs.declared.split.SplitOn.TheVariants as split
use Rattle.cert_tree.specs.Tree.{Tree, split_with}
use Rattle.cert_tree.specs.Replaced.{replaced}
use Rattle.cert_tree.specs.Decisions.{outside_of, inside_of}
use Rattle.branch.specs.Leaves.{DecidedLeaf, leaves_of}
use Rattle.branch.specs.States.{IsOpenLeaf}

-- the edge is undecided and has a saturated arc
pub record IsSplitEdge (g : Graph) (leaf : DecidedLeaf) (e : ℕ) : Type 0 where
  pub undecided : IsUndecided g leaf.decision e
  pub saturated : HasSaturatedArc g leaf.decision leaf.packing e

-- the vertex is undecided and an end of such an edge
pub record IsSplitVertex (g : Graph) (leaf : DecidedLeaf) (v : ℕ) : Type 0 where
  pub undecided : IsVertexUndecided g leaf.decision v
  pub number : ℕ
  pub edge : Edge
  pub at : slice_get g.edges number ≡ Some edge
  pub ends : (edge.a ≡ v) ⊎ (edge.b ≡ v)
  pub splits : IsSplitEdge g leaf number

-- what a leaf may be split on
abbrev pub IsSplitOf : Graph → DecidedLeaf → SplitOn → Type 0
IsSplitOf g leaf (split.Edge e) = IsSplitEdge g leaf e
IsSplitOf g leaf (split.Vertex v) = IsSplitVertex g leaf v

-- the packing begins with the one that the leaf's packing carries to the decision
abbrev pub BeginsAt : Graph → DecidedLeaf → Decided → List Cut → Type 0
BeginsAt g leaf d packing = BeginsWith packing (carried g d leaf.packing)

-- An opening: a leaf whose value is below the network's length is replaced by a split with two leaves, and the
-- other leaves stay. The packing of each new leaf begins with the one that the replaced leaf's packing carries
-- to its decision. The network is no longer than before.
pub record IsOpening (g : Graph) (network later_network : List Bool) (tree later_tree : Tree SplitOn) : Type 0 where
  pub place : ℕ
  pub leaf : DecidedLeaf
  pub on : SplitOn
  pub outside : List Cut
  pub inside : List Cut
  pub at : slice_get (leaves_of (nothing_decided g) tree) place ≡ Some leaf
  pub below : IsOpenLeaf g (length_of g network) leaf
  pub splits : IsSplitOf g leaf on
  pub tree_is : later_tree ≡ replaced place (split_with on outside inside) tree
  pub outside_begins : BeginsAt g leaf (outside_of leaf.decision on) outside
  pub inside_begins : BeginsAt g leaf (inside_of leaf.decision on) inside
  pub no_longer : length_of g later_network ≤ length_of g network

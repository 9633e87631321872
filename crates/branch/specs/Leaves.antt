-- The leaves of a certificate tree, each with what is decided on its way.
use Rattle.std.specs.Prelude.{List, [], ◌∷◌, ◌++◌}
use Rattle.net_graph.specs.declared.packing.Cut.{Cut}
use Rattle.net_graph.specs.Decision.{Decided}
use Rattle.cert_tree.specs.declared.split.SplitOn.{SplitOn}
use Rattle.cert_tree.specs.Tree.{Tree}
use Rattle.cert_tree.specs.Tree.Tree.{Leaf, Split}
use Rattle.cert_tree.specs.Decisions.{outside_of, inside_of}

-- a packing under the decision that stands where it is a leaf
pub record DecidedLeaf : Type 0 where
  pub decision : Decided
  pub packing : List Cut

-- the leaf of a packing under a decision
abbrev pub leaf_under : Decided → List Cut → DecidedLeaf
leaf_under d packing = record { decision = d; packing = packing }

-- the leaves of a tree under a decision, in preorder
abbrev pub leaves_of : Decided → Tree SplitOn → List DecidedLeaf
leaves_of d (Leaf cuts) = leaf_under d cuts ∷ []
leaves_of d (Split on outside inside) = leaves_of (outside_of d on) outside ++ leaves_of (inside_of d on) inside

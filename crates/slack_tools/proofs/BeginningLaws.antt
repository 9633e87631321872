-- The packing of a tree's only leaf.
use Rattle.std.proofs.Common.{◌≡◌, ◌≤◌, List, slice_get, Some, subst, arith}
use Rattle.net_graph.specs.declared.packing.Cut.{Cut}
use Rattle.net_graph.specs.Graph.{Graph}
use Rattle.net_graph.specs.Decision.{nothing_decided}
use Rattle.net_graph.specs.Packing.{IsFeasible}
use Rattle.cert_tree.specs.declared.split.SplitOn.{SplitOn}
use Rattle.cert_tree.specs.Tree.{Tree}
use Rattle.cert_tree.specs.Tree.Tree.{Leaf, Split}
use Rattle.cert_tree.specs.Preorder.{packings_of, split_count}
use Rattle.cert_tree.specs.TreeValue.{IsValidTree}

-- it is feasible where the tree is valid and nothing decided
pub leaf_feasible : (g : Graph) (tree : Tree SplitOn) (packing : List Cut) → split_count tree ≤ 0 →
    IsValidTree g (nothing_decided g) tree → slice_get (packings_of tree) 0 ≡ Some packing →
    IsFeasible g (nothing_decided g) packing
leaf_feasible g (Leaf cuts) packing none valid first =
    let same : cuts ≡ packing = cc in subst (λ p. IsFeasible g (nothing_decided g) p) same valid
leaf_feasible g (Split on outside inside) packing none valid first = absurd (omega (arith, none))

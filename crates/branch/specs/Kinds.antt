-- What the splits of a tree are on.
use Rattle.std.specs.Prelude.{◌≡◌}
use Rattle.cert_tree.specs.declared.split.SplitOn.{SplitOn}
use Rattle.cert_tree.specs.declared.split.SplitOn.TheVariants as split
use Rattle.cert_tree.specs.Tree.{Tree}
use Rattle.cert_tree.specs.Tree.Tree.{Leaf, Split}
use Rattle.branch.specs.declared.split_kind.SplitKind.{SplitKind}
use Rattle.branch.specs.declared.split_kind.SplitKind.TheVariants as kind

-- each split of the tree is on an edge
abbrev pub SplitsEdges : Tree SplitOn → Type 0
SplitsEdges (Leaf cuts) = Unit {0}
SplitsEdges (Split (split.Edge e) outside inside) = SplitsEdges outside × SplitsEdges inside
SplitsEdges (Split (split.Vertex v) outside inside) = ⊥

-- each split of the tree is on a vertex
abbrev pub SplitsVertices : Tree SplitOn → Type 0
SplitsVertices (Leaf cuts) = Unit {0}
SplitsVertices (Split (split.Edge e) outside inside) = ⊥
SplitsVertices (Split (split.Vertex v) outside inside) = SplitsVertices outside × SplitsVertices inside

-- each split of the tree is on an edge, where edges are what is asked for
abbrev pub AreOfKind : SplitKind → Tree SplitOn → Type 0
AreOfKind asked tree = asked ≡ kind.Edges → SplitsEdges tree

-- What is decided at the nodes of a tree.
use Rattle.std.specs.Prelude.{ℕ, ◌≡◌, List, [], ◌∷◌, ◌++◌, slice_get, Some}
use Rattle.net_graph.specs.declared.packing.Cut.{Cut}
use Rattle.net_graph.specs.declared.state.EdgeState.TheVariants.{Inside, Outside}
use Rattle.net_graph.specs.declared.state.VertexState.TheVariants.{Met, Missed}
use Rattle.net_graph.specs.Graph.{Graph}
use Rattle.net_graph.specs.Decision.{Decided, IsUndecided, IsVertexUndecided, with_edge, with_vertex}
use Rattle.cert_tree.specs.declared.split.SplitOn.{SplitOn}
use Rattle.cert_tree.specs.declared.split.SplitOn.TheVariants as split
use Rattle.cert_tree.specs.Tree.{Tree}
use Rattle.cert_tree.specs.Tree.Tree.{Leaf, Split}
use Rattle.cert_tree.specs.Preorder.{packings_of}

-- the decision of a split's outside child: the edge is outside, or the vertex missed
abbrev pub outside_of : Decided → SplitOn → Decided
outside_of d (split.Edge e) = with_edge d e Outside
outside_of d (split.Vertex v) = with_vertex d v Missed

-- the decision of a split's inside child: the edge is inside, or the vertex met
abbrev pub inside_of : Decided → SplitOn → Decided
inside_of d (split.Edge e) = with_edge d e Inside
inside_of d (split.Vertex v) = with_vertex d v Met

-- what the split is on is undecided
abbrev pub IsUndecidedSplit : Graph → Decided → SplitOn → Type 0
IsUndecidedSplit g d (split.Edge e) = IsUndecided g d e
IsUndecidedSplit g d (split.Vertex v) = IsVertexUndecided g d v

-- what each split is on is undecided where it stands
abbrev pub HasUndecidedSplits : Graph → Decided → Tree SplitOn → Type 0
HasUndecidedSplits g d (Leaf cuts) = Unit {0}
HasUndecidedSplits g d (Split on outside inside) =
    IsUndecidedSplit g d on × HasUndecidedSplits g (outside_of d on) outside
    × HasUndecidedSplits g (inside_of d on) inside

-- the decisions of the leaves in preorder
abbrev pub decisions_of : Decided → Tree SplitOn → List Decided
decisions_of d (Leaf cuts) = d ∷ []
decisions_of d (Split on outside inside) =
    decisions_of (outside_of d on) outside ++ decisions_of (inside_of d on) inside

-- the leaf at a place, in preorder, stands under this decision and has these cuts
pub record IsLeafAt (d : Decided) (tree : Tree SplitOn) (place : ℕ) (own : Decided) (cuts : List Cut) : Type 0 where
  pub decision : slice_get (decisions_of d tree) place ≡ Some own
  pub packing : slice_get (packings_of tree) place ≡ Some cuts

-- How a judge stands on the way to a node.
use Rattle.std.specs.Prelude.{ℕ, ◌≡◌, ◌<◌, length, slice_get, Some, ◌⊎◌}
use Rattle.net_graph.specs.declared.edge.Edge.{Edge}
use Rattle.net_graph.specs.declared.state.EdgeState.TheVariants.{Undecided, Inside}
use Rattle.net_graph.specs.declared.state.VertexState.TheVariants as vertex
use Rattle.net_graph.specs.Graph.{Graph}
use Rattle.net_graph.specs.Decision.{Decided, IsMet, nothing_decided, with_edge, with_vertex}
use Rattle.cert_tree.specs.declared.split.SplitOn.{SplitOn}
use Rattle.cert_tree.specs.declared.split.SplitOn.TheVariants as split
use Rattle.tree_judge.specs.Path.{IsWay, decision_along}
use Rattle.tree_judge.specs.declared.way.Way.{Way}

-- there is a state of each edge and each vertex of the graph
pub record HasStates (g : Graph) (d : Decided) : Type 0 where
  pub edges : length d.edges ≡ length g.edges
  pub vertices : length d.vertices ≡ g.vertices

-- the decision of the node that a way leads to
abbrev pub decision_at : Graph → Way → Decided
decision_at g way = decision_along (nothing_decided g) way.path

-- what each split of the way is on was undecided, and what is decided is the decision of the node
pub record StandsOnWay (g : Graph) (way : Way) : Type 0 where
  pub states : HasStates g way.decided
  pub splits : IsWay g (nothing_decided g) way.path
  pub decided : way.decided ≡ decision_at g way

-- there is a state of what a split is on
abbrev pub HasState : Decided → SplitOn → Type 0
HasState d (split.Edge e) = e < length d.edges
HasState d (split.Vertex v) = v < length d.vertices

-- the decision but for what a split is on, which is undecided again
abbrev pub undecided_of : Decided → SplitOn → Decided
undecided_of d (split.Edge e) = with_edge d e Undecided
undecided_of d (split.Vertex v) = with_vertex d v vertex.Undecided

-- the vertex is required by what a split is on: it is an end of that edge, which is inside, or is that vertex, which is
-- met
abbrev pub RequiresOn : Graph → Decided → SplitOn → ℕ → Type 0
RequiresOn g d (split.Edge n) v =
    (e : Edge) × (slice_get d.edges n ≡ Some Inside) × (slice_get g.edges n ≡ Some e) × ((e.a ≡ v) ⊎ (e.b ≡ v))
RequiresOn g d (split.Vertex w) v = (w ≡ v) × IsMet d w

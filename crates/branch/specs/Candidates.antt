-- What a kind of splits asks of the network that a leaf shows.
use Rattle.std.specs.Prelude.{ℕ, ◌≡◌, ◌<◌, Bool, true, List, slice_get, Some}
use Rattle.net_graph.specs.Graph.{Graph}
use Rattle.net_graph.specs.Decision.{Decided, IsUndecided, IsVertexUndecided}
use Rattle.cert_tree.specs.declared.split.SplitOn.{SplitOn}
use Rattle.cert_tree.specs.declared.split.SplitOn.TheVariants as split
use Rattle.branch.specs.declared.split_kind.SplitKind.{SplitKind}
use Rattle.branch.specs.declared.split_kind.SplitKind.TheVariants as kind
use Rattle.branch.specs.Meeting.{edges_at}

-- the edge is in the set and undecided
pub record IsEdgeToSplit (g : Graph) (d : Decided) (set : List Bool) (e : ℕ) : Type 0 where
  pub within : slice_get set e ≡ Some true
  pub undecided : IsUndecided g d e

-- the vertex is an end of an edge of the set and undecided
pub record IsVertexToSplit (g : Graph) (d : Decided) (set : List Bool) (v : ℕ) : Type 0 where
  pub some : 0 < edges_at g.edges set v
  pub undecided : IsVertexUndecided g d v

-- no edge of the set is undecided
abbrev pub HasNoEdgeToSplit : Graph → Decided → List Bool → Type 0
HasNoEdgeToSplit g d set = (e : ℕ) → IsEdgeToSplit g d set e → ⊥

-- no end of an edge of the set is undecided
abbrev pub HasNoVertexToSplit : Graph → Decided → List Bool → Type 0
HasNoVertexToSplit g d set = (v : ℕ) → IsVertexToSplit g d set v → ⊥

-- What a split of the kind may be on, by a decision and a set of edges: of the kind Edges, an undecided edge of the
-- set; of the kind Vertices, an undecided end of an edge of the set, and an undecided edge of it only where no end is.
abbrev pub IsCandidate : SplitKind → Graph → Decided → List Bool → SplitOn → Type 0
IsCandidate kind.Edges g d set (split.Edge e) = IsEdgeToSplit g d set e
IsCandidate kind.Edges g d set (split.Vertex v) = ⊥
IsCandidate kind.Vertices g d set (split.Edge e) = IsEdgeToSplit g d set e × HasNoVertexToSplit g d set
IsCandidate kind.Vertices g d set (split.Vertex v) = IsVertexToSplit g d set v

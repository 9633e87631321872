-- What a search keeps beside the leaves of its tree.
use Rattle.std.specs.Prelude.{ℕ, ◌≡◌, ◌+◌, ◌*◌, ◌<◌, ◌≤◌, Bool, List, [], ◌∷◌, length, slice_get, Option, Some}
use Rattle.std.specs.Prelude.{None, IfSome, All, take, ◌⊎◌, nat_le, if◌then◌else◌}
use Rattle.std.specs.List.{AllZip}
use Rattle.net_graph.specs.declared.edge.Edge.{Edge}
use Rattle.net_graph.specs.Graph.{Graph, total_of}
use Rattle.net_graph.specs.Network.{length_of}
use Rattle.net_graph.specs.Decision.{Decided, IsDecisionFor, IsUndecided, IsVertexUndecided, states_of}
use Rattle.net_graph.specs.Packing.{IsFeasible}
use Rattle.dual_ascent.specs.declared.candidate.Candidate.{Candidate}
use Rattle.dual_ascent.specs.declared.costs.EdgeCosts.{EdgeCosts}
use Rattle.dual_ascent.specs.Costs.{costs_of}
use Rattle.cert_tree.specs.declared.split.SplitOn.{SplitOn}
use Rattle.branch.specs.declared.split_kind.SplitKind.{SplitKind}
use Rattle.branch.specs.declared.note.LeafNote.{LeafNote}
use Rattle.branch.specs.declared.best.Best.{Best}
use Rattle.branch.specs.Candidates.{IsCandidate, IsEdgeToSplit, IsVertexToSplit, HasNoEdgeToSplit}
use Rattle.branch.specs.Leaves.{DecidedLeaf}
use Rattle.branch.specs.Meeting.{edges_at}
use Rattle.branch.specs.SaturatedArcs.{IsUsedUpEdge}
use Rattle.branch.specs.States.{IsNetworkOf, IsShownBy, leaf_value}

-- a leaf shows the network that is kept beside it; where there is none, its value is at least the sum of all lengths
abbrev pub ShowsOwn : Graph → DecidedLeaf → Option (List Bool) → Type 0
ShowsOwn g leaf None = total_of g ≤ leaf_value g leaf
ShowsOwn g leaf (Some set) = IsShownBy g leaf set

-- what is kept beside a leaf is true of it
pub record IsNoteOf (g : Graph) (leaf : DecidedLeaf) (note : LeafNote) : Type 0 where
  pub decision : note.decision ≡ leaf.decision
  pub decided : IsDecisionFor g leaf.decision
  pub feasible : IsFeasible g leaf.decision leaf.packing
  pub few : length leaf.packing ≤ 4 * length g.edges + 1
  pub value : note.value ≡ leaf_value g leaf
  pub own : ShowsOwn g leaf note.network
  pub costs : (set : List Bool) → note.network ≡ Some set
      → note.costs ≡ costs_of g.edges (states_of g leaf.decision) leaf.packing

-- what is kept as a leaf's own network is one
abbrev pub IsOwnNetwork : Graph → Option (List Bool) → Type 0
IsOwnNetwork g own = IfSome own (λ set. IsNetworkOf g set)

-- the length is at most that of a leaf's own network
abbrev pub IsUpToOwn : Graph → ℕ → Option (List Bool) → Type 0
IsUpToOwn g length own = IfSome own (λ set. length ≤ length_of g set)

-- the shorter one of a network and of another one, if there is another; the first of them on a tie
abbrev pub shorter_of : Graph → List Bool → Option (List Bool) → List Bool
shorter_of g set None = set
shorter_of g set (Some other) = if nat_le (length_of g set) (length_of g other) then set else other

-- the network that is kept beside the first leaf, if one is
abbrev pub shown_first : List LeafNote → Option (List Bool)
shown_first [] = None
shown_first (note ∷ notes) = note.network

-- what is kept beside a leaf is true of it, and the leaf's own network is no shorter than the length
abbrev pub IsKeptNote : Graph → ℕ → DecidedLeaf → LeafNote → Type 0
IsKeptNote g length leaf note = IsNoteOf g leaf note × IsUpToOwn g length note.network

-- the same of all leaves one by one
abbrev pub AreNotesOf : Graph → ℕ → List DecidedLeaf → List LeafNote → Type 0
AreNotesOf g length leaves notes = AllZip (IsKeptNote g length) leaves notes

-- The value that is kept at the place is below the length, no other one is less, and each one before it is greater.
abbrev pub IsNextNote : ℕ → List LeafNote → ℕ → Type 0
IsNextNote length notes place =
    (note : LeafNote) × (slice_get notes place ≡ Some note) × (note.value < length)
    × All (λ other. note.value ≤ other.value) notes × All (λ other. note.value < other.value) (take place notes)

-- the number is the lesser of the length and the least value that is kept
pub record IsLesserOfNotes (length : ℕ) (notes : List LeafNote) (bound : ℕ) : Type 0 where
  pub limit : bound ≤ length
  pub each : All (λ note. bound ≤ note.value) notes
  pub one : (bound ≡ length)
      ⊎ ((place : ℕ) × (note : LeafNote) × (slice_get notes place ≡ Some note) × (note.value ≡ bound))

-- a network with its length
pub record IsBest (g : Graph) (best : Best) : Type 0 where
  pub network_of : IsNetworkOf g best.network
  pub length : best.length ≡ length_of g best.network

-- the candidate is an undecided edge of the set, and its size is its length
pub record IsEdgeCandidate (g : Graph) (d : Decided) (set : List Bool) (c : Candidate) : Type 0 where
  pub edge : IsEdgeToSplit g d set c.number
  pub size : (e : Edge) → slice_get g.edges c.number ≡ Some e → c.size ≡ e.length

-- the candidate is an undecided end of edges of the set, of as many as its size says
pub record IsVertexCandidate (g : Graph) (d : Decided) (set : List Bool) (c : Candidate) : Type 0 where
  pub vertex : IsVertexToSplit g d set c.number
  pub size : c.size ≡ edges_at g.edges set c.number

-- The leaf that the note stands for can be split on an edge: it has a network, of which some edge is undecided.
pub record CanSplit (g : Graph) (note : LeafNote) : Type 0 where
  pub set : List Bool
  pub own : note.network ≡ Some set
  pub size : length set ≡ length g.edges
  pub some : HasNoEdgeToSplit g note.decision set → ⊥

-- a split of the kind may be on this, by the leaf's own network
pub record IsChoice (g : Graph) (note : LeafNote) (asked : SplitKind) (on : SplitOn) : Type 0 where
  pub set : List Bool
  pub own : note.network ≡ Some set
  pub candidate : IsCandidate asked g note.decision set on

-- an undecided edge ends at the vertex, and nothing is left of the room of one of its arcs
pub record EndsUsedUpEdge (g : Graph) (d : Decided) (costs : List EdgeCosts) (v : ℕ) : Type 0 where
  pub number : ℕ
  pub edge : Edge
  pub at : slice_get g.edges number ≡ Some edge
  pub ends : (edge.a ≡ v) ⊎ (edge.b ≡ v)
  pub undecided : IsUndecided g d number
  pub used_up : IsUsedUpEdge costs number

-- a network is kept beside the leaf, the vertex is undecided, and such an edge ends there by what is kept of the rooms
pub record HasSaturatedEnd (g : Graph) (note : LeafNote) (v : ℕ) : Type 0 where
  pub set : List Bool
  pub own : note.network ≡ Some set
  pub undecided : IsVertexUndecided g note.decision v
  pub edge : EndsUsedUpEdge g note.decision note.costs v

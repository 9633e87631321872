-- What is seen of a state's nodes: their edges, as far as a rule wants them, and whether they are terminals.
use Rattle.std.specs.Prelude.{ℕ, ◌≡◌, ◌≢◌, ◌<◌, ◌≤◌, Bool, true, List, length, slice_get, Some, All}
use Rattle.std.specs.BTreeSet.{BTreeSet}
use Rattle.net_graph.specs.Flags.{has}
use Rattle.graph_reduce.specs.declared.node_edges.NodeEdges.{NodeEdges}
use Rattle.graph_reduce.specs.declared.node_edges.NodeEdges.TheVariants.{NoEdge, OneEdge, TwoEdges, More}
use Rattle.graph_reduce.specs.NumberSets.{IsIn}
use Rattle.graph_reduce.specs.State.{Bundle, State, HasEdge, EndsIn, IsTerminal}

-- the ends of edges and the terminals are numbers of nodes
pub record IsNumbered (s : State) : Type 0 where
  pub ends : (place : ℕ) (x : Bundle) → HasEdge s place x → (x.edge.a < length s.nodes) × (x.edge.b < length s.nodes)
  pub terminals : All (λ t. t < length s.nodes) s.terminals

-- of the places below a number, this one alone has an edge of the node
pub record HasOneBelow (s : State) (v end place : ℕ) : Type 0 where
  pub below : place < end
  pub ends : EndsIn s v place
  pub only : (n : ℕ) → n < end → EndsIn s v n → n ≡ place

-- .. these two
pub record HasTwoBelow (s : State) (v end one two : ℕ) : Type 0 where
  pub order : one < two
  pub below : two < end
  pub first : EndsIn s v one
  pub second : EndsIn s v two
  pub only : (n : ℕ) → n < end → EndsIn s v n → n ≢ one → n ≡ two

-- three places have an edge of the node
pub record HasThree (s : State) (v : ℕ) : Type 0 where
  pub one : ℕ
  pub two : ℕ
  pub three : ℕ
  pub order : one < two
  pub more : two < three
  pub first : EndsIn s v one
  pub second : EndsIn s v two
  pub third : EndsIn s v three

-- the edges of the node at the places below a number
abbrev pub IsSeenTo : State → ℕ → ℕ → NodeEdges → Type 0
IsSeenTo s v end NoEdge = (n : ℕ) → n < end → ¬ EndsIn s v n
IsSeenTo s v end (OneEdge place) = HasOneBelow s v end place
IsSeenTo s v end (TwoEdges one two) = HasTwoBelow s v end one two
IsSeenTo s v end More = HasThree s v

-- the next place that holds an edge of the node
pub record IsNextEnd (s : State) (v start place : ℕ) : Type 0 where
  pub from : start ≤ place
  pub ends : EndsIn s v place
  pub none : (n : ℕ) → start ≤ n → n < place → ¬ EndsIn s v n

-- the set has each place with an edge of the node
abbrev pub HasPlacesOf : State → ℕ → BTreeSet ℕ → Type 0
HasPlacesOf s v set = (n : ℕ) → EndsIn s v n → IsIn set n

-- the place is listed for the node
abbrev pub IsListed : List (BTreeSet ℕ) → ℕ → ℕ → Type 0
IsListed places v n = (set : BTreeSet ℕ) × (slice_get places v ≡ Some set) × IsIn set n

-- each place below an end is listed for both ends of its edge
pub record AreListedTo (s : State) (end : ℕ) (places : List (BTreeSet ℕ)) : Type 0 where
  pub size : length places ≡ length s.nodes
  pub listed : (v n : ℕ) → n < end → EndsIn s v n → IsListed places v n

-- the marks are those of the terminals
pub record AreMarked (s : State) (marks : List Bool) : Type 0 where
  pub size : length marks ≡ length s.nodes
  pub marked : (v : ℕ) → has marks v ≡ true → IsTerminal s v
  pub terminals : (v : ℕ) → IsTerminal s v → has marks v ≡ true

-- all places are listed for both ends of their edges, and the terminals are marked
pub record IsSurvey (s : State) (listed : List (BTreeSet ℕ)) (marks : List Bool) : Type 0 where
  pub places : AreListedTo s (length s.edges) listed
  pub terminals : AreMarked s marks

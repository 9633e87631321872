-- Walks, reached vertices, networks, terminals apart, lengths and bounds on them. An edge set is the list of its
-- flags: one for each edge, true where the edge is in it.
use Rattle.std.specs.Prelude.{ℕ, ◌≡◌, ◌+◌, ◌<◌, ◌≤◌, Bool, true, List, [], ◌∷◌, slice_get, Some, ◌⊎◌, All, Contains, if◌then◌else◌}
use Rattle.net_graph.specs.declared.edge.Edge.{Edge}
use Rattle.net_graph.specs.Graph.{Graph, root_of}
use Rattle.net_graph.specs.Search.{StepWalk, Leads}

-- the two vertices are the ends of the edge
abbrev pub HasEnds : Edge → ℕ → ℕ → Type 0
HasEnds e v w = ((e.a ≡ v) × (e.b ≡ w)) ⊎ ((e.a ≡ w) × (e.b ≡ v))

-- some edge of the set has these ends
abbrev pub Links : Graph → List Bool → ℕ → ℕ → Type 0
Links g set v w = (n : ℕ) × (e : Edge) × (slice_get set n ≡ Some true) × (slice_get g.edges n ≡ Some e) × HasEnds e v w

-- a walk of n edges of the set, from v to w
abbrev pub Walk : Graph → List Bool → ℕ → ℕ → ℕ → Type 0
Walk g set v w n = StepWalk (Links g set) v w n

-- a walk leads from the root to the vertex
abbrev pub Reaches : Graph → List Bool → ℕ → Type 0
Reaches g set v = Leads (Links g set) (root_of g) v

-- every two of the vertices are linked by a walk over edges of the set
abbrev pub Joins : Graph → List Bool → List ℕ → Type 0
Joins g set vertices = (v w : ℕ) → Contains vertices v → Contains vertices w → Leads (Links g set) v w

-- every terminal is reached
abbrev pub IsNetwork : Graph → List Bool → Type 0
IsNetwork g set = All (Reaches g set) g.terminals

-- the terminal at this place is not reached, and those before it are
pub record IsFirstApart (g : Graph) (set : List Bool) (place : ℕ) : Type 0 where
  pub terminal : ℕ
  pub at : slice_get g.terminals place ≡ Some terminal
  pub apart : Reaches g set terminal → ⊥
  pub before : (p v : ℕ) → p < place → slice_get g.terminals p ≡ Some v → Reaches g set v

-- the sum of the lengths of the edges whose flag is set
abbrev pub length_of_edges : List Edge → List Bool → ℕ
length_of_edges [] set = 0
length_of_edges (e ∷ es) [] = 0
length_of_edges (e ∷ es) (flag ∷ set) = (if flag then e.length else 0) + length_of_edges es set

-- the plain sum of the lengths of the set's edges, each counted once
abbrev pub length_of : Graph → List Bool → ℕ
length_of g set = length_of_edges g.edges set

-- no network is shorter
abbrev pub IsLowerBound : Graph → ℕ → Type 0
IsLowerBound g bound = (other : List Bool) → IsNetwork g other → bound ≤ length_of g other

-- a network, and no network is shorter than it
abbrev pub IsShortest : Graph → List Bool → Type 0
IsShortest g set = IsNetwork g set × IsLowerBound g (length_of g set)

-- What is wrong with the parts of a graph. Faults are judged in the order of the cases below.
use Rattle.std.specs.Prelude.{ℕ, ◌≡◌, ◌<◌, ◌≤◌, ◌^◌, List, [], length, slice_get, Some, All}
use Rattle.net_graph.specs.declared.graph.GraphFault.{GraphFault}
use Rattle.net_graph.specs.declared.graph.GraphFault.TheVariants.{EndOutOfRange, ZeroLength, NoTerminal, TerminalOutOfRange, TooLong, Memory}
use Rattle.net_graph.specs.Graph.{Graph, HasEndsBelow, total_of}

-- the list has such an item at this place, and none at an earlier one
pub record IsFirst {X : Type 0} (P : X → Type 0) (xs : List X) (place : ℕ) : Type 0 where
  pub here : (x : X) × (slice_get xs place ≡ Some x) × P x
  pub before : (k : ℕ) (x : X) → k < place → slice_get xs k ≡ Some x → P x → ⊥

-- every edge joins vertices and has a length
pub record HasSoundEdges (g : Graph) : Type 0 where
  pub ends : All (HasEndsBelow g.vertices) g.edges
  pub lengths : All (λ e. 0 < e.length) g.edges

-- every edge is sound, there is a terminal, and each terminal is a vertex
pub record HasSoundParts (g : Graph) : Type 0 where
  pub edges : HasSoundEdges g
  pub terminal : 0 < length g.terminals
  pub terminals : All (λ t. t < g.vertices) g.terminals

-- this fault is the first of the graph's faults; want of memory has no cause in the graph
abbrev pub IsFirstFault : Graph → GraphFault → Type 0
IsFirstFault g (EndOutOfRange n) = IsFirst (λ e. ¬ HasEndsBelow g.vertices e) g.edges n
IsFirstFault g (ZeroLength n) = All (HasEndsBelow g.vertices) g.edges × IsFirst (λ e. e.length ≡ 0) g.edges n
IsFirstFault g NoTerminal = HasSoundEdges g × (g.terminals ≡ [])
IsFirstFault g (TerminalOutOfRange place) = HasSoundEdges g × IsFirst (λ t. g.vertices ≤ t) g.terminals place
IsFirstFault g (TooLong total) = HasSoundParts g × (total ≡ total_of g) × (2 ^ 63 ≤ total)
IsFirstFault g (Memory e) = Unit {0}

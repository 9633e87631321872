-- How far a reduction has come: steps between states, and the rules that do not apply.
use Rattle.std.specs.Prelude.{ℕ, ◌≡◌, ◌≢◌, ◌⊎◌, ◌<◌, length}
use Rattle.net_graph.specs.Graph.{Graph, IsGraph}
use Rattle.net_graph.specs.Network.{HasEnds}
use Rattle.graph_reduce.specs.State.{Bundle, State, HasEdge, start_of}
use Rattle.graph_reduce.specs.Rules.{AreParallel}
use Rattle.graph_reduce.specs.Step.{IsStep, AreSteps}

-- steps lead from a state to another
pub record LeadsTo (old new : State) : Type 0 where
  pub count : ℕ
  pub steps : AreSteps count old new

-- steps lead from some graph to the state
pub record IsReached (s : State) : Type 0 where
  pub graph : Graph
  pub sound : IsGraph graph
  pub from_start : LeadsTo (start_of graph) s

-- one edge at least is left
abbrev pub HasSomeEdge : State → Type 0
HasSomeEdge s = (place : ℕ) × (x : Bundle) × HasEdge s place x

-- the first rules do not apply: no edge is left beside one terminal, no edge below this place is a loop, and no two
-- edges are parallel of which the one is before a place, or at it and the other before a later place
pub record IsClearTo (s : State) (end pair later : ℕ) : Type 0 where
  pub idle : length s.terminals ≡ 1 → ¬ HasSomeEdge s
  pub loops : (place : ℕ) (x : Bundle) → place < end → HasEdge s place x → x.edge.a ≢ x.edge.b
  pub parallels : (one two : ℕ) (x y : Bundle) → (one < pair) ⊎ ((one ≡ pair) × (two < later)) →
      ¬ AreParallel s one two x y

-- the first three rules do not apply
pub record IsTidy (s : State) : Type 0 where
  pub idle : length s.terminals ≡ 1 → ¬ HasSomeEdge s
  pub loops : (place : ℕ) (x : Bundle) → HasEdge s place x → x.edge.a ≢ x.edge.b
  pub parallels : (one two : ℕ) (x y : Bundle) → ¬ AreParallel s one two x y

-- the edges of the one state are those of the other at the same places, or some of them
pub record IsWithin (new old : State) : Type 0 where
  pub places : length new.edges ≡ length old.edges
  pub edges : (place : ℕ) (x : Bundle) → HasEdge new place x → HasEdge old place x

-- the first three rules do not apply, but that the edge at the place may be parallel to another
pub record IsTidyBut (s : State) (place : ℕ) : Type 0 where
  pub idle : length s.terminals ≡ 1 → ¬ HasSomeEdge s
  pub loops : (n : ℕ) (x : Bundle) → HasEdge s n x → x.edge.a ≢ x.edge.b
  pub parallels : (one two : ℕ) (x y : Bundle) → one ≢ place → two ≢ place → ¬ AreParallel s one two x y

-- two places hold edges with the same two ends
pub record AreAlike (s : State) (place other : ℕ) : Type 0 where
  pub apart : other ≢ place
  pub x : Bundle
  pub y : Bundle
  pub at : HasEdge s place x
  pub other_at : HasEdge s other y
  pub ends : HasEnds y.edge x.edge.a x.edge.b

-- one step at least, and no edge is left to tidy up
pub record GoesOn (old new : State) : Type 0 where
  pub next : State
  pub step : IsStep old next
  pub rest : LeadsTo next new
  pub tidy : IsTidy new

-- what each edge stands for is a set of the size of the forced edges
abbrev pub HasSetsOfOneSize : State → Type 0
HasSetsOfOneSize s = (place : ℕ) (x : Bundle) → HasEdge s place x → length x.originals ≡ length s.forced

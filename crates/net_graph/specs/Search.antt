-- Walks by single steps, and where they lead. A step is a relation between numbers, from the one to the other.
use Rattle.std.specs.Prelude.{ℕ, zero, suc, ◌≡◌, Bool, true, List, All, ◌++◌}
use Rattle.net_graph.specs.declared.edge.Edge.{Edge}
use Rattle.net_graph.specs.declared.arcs.Arc.{Arc}
use Rattle.net_graph.specs.Arcs.{IsArcOf}

-- a walk of n steps
abbrev pub StepWalk : (ℕ → ℕ → Type 0) → ℕ → ℕ → ℕ → Type 0
StepWalk Step v w zero = v ≡ w
StepWalk Step v w (suc n) = (u : ℕ) × StepWalk Step v u n × Step u w

-- a walk leads from v to w
abbrev pub Leads : (ℕ → ℕ → Type 0) → ℕ → ℕ → Type 0
Leads Step v w = (n : ℕ) × StepWalk Step v w n

-- an arc that may be walked leads from v to w
abbrev pub OpenStep : List Edge → (ℕ → Bool) → ℕ → ℕ → Type 0
OpenStep edges opens v w = (arc : Arc) × IsArcOf edges arc × (opens arc.number ≡ true) × (arc.from ≡ v) × (arc.to ≡ w)

-- the vertices that a search has found, as contracts see them: all are below the size
pub record Finds : Type 0 where
  pub size : ℕ
  pub order : List ℕ

-- more numbers stand behind the old ones, and P holds of those
pub record Extends (P : ℕ → Type 0) (old new : List ℕ) : Type 0 where
  pub rest : List ℕ
  pub is : new ≡ old ++ rest
  pub each : All P rest

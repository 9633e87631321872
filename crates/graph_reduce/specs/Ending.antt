-- The law that reductions end.
use Rattle.std.specs.Prelude.{ℕ, ◌+◌, ◌≤◌, length}
use Rattle.net_graph.specs.Graph.{Graph}
use Rattle.graph_reduce.specs.State.{State, start_of}
use Rattle.graph_reduce.specs.Step.{AreSteps}

-- no more steps lead from a graph than it has vertices and edges
abbrev pub ReductionsEnd : Type 0
ReductionsEnd = (g : Graph) (n : ℕ) (s : State) → AreSteps n (start_of g) s → n ≤ g.vertices + length g.edges

-- The text of a graph is read back as that graph.
use Rattle.std.specs.Prelude.{ℕ, ◌≡◌, ◌≢◌, ◌≤◌, List, length, map, min, max, AllPairs, Ok}
use Rattle.net_graph.specs.declared.edge.Edge.{Edge}
use Rattle.net_graph.specs.Graph.{Graph, graph_of, IsGraph}
use Rattle.stp_format.specs.Reading.{stp_of}
use Rattle.stp_format.specs.Value.{StpValue}
use Rattle.graph_solve.specs.Task.{graph_of_stp}
use Rattle.graph_solve.specs.Fault as problem
use Rattle.obstacles_in.specs.Obstacles.{ObstaclesValue, AreObstacles}
use Rattle.obstacle_grid.specs.Grid.{obstacle_graph_of}
use Rattle.obstacle_grid.specs.Fault.{IsTask}
use Rattle.obstacle_grid.specs.Text.{graph_stp_text}

-- the edge, with its end of the lower number first
abbrev pub turned : Edge → Edge
turned e = record { a = min e.a e.b; b = max e.a e.b; length = e.length }

-- the graph, with all its edges so
abbrev pub with_edges_turned : Graph → Graph
with_edges_turned g = graph_of g.vertices (map turned g.edges) g.terminals

-- no vertex stands twice in the list
abbrev pub AreDifferent : List ℕ → Type 0
AreDifferent vertices = AllPairs (λ v w. v ≢ w) vertices

-- the bytes are an STP file, and its graph is this one
abbrev pub IsReadAs : List ℕ → Graph → Type 0
IsReadAs bytes g = (file : StpValue) × (stp_of bytes ≡ Ok file) × (graph_of_stp file ≡ g)

-- the text of a graph with at most 255 terminals, all different, is read back
abbrev pub GraphsAreReadBack : Type 0
GraphsAreReadBack = (g : Graph) → IsGraph g → length g.terminals ≤ 255 → AreDifferent g.terminals
    → IsReadAs (graph_stp_text g) (with_edges_turned g)

-- The bytes are an STP file that is a Steiner problem of the suite, and its graph is this one.
abbrev pub IsProblemOf : List ℕ → Graph → Type 0
IsProblemOf bytes g =
    (file : StpValue) × (stp_of bytes ≡ Ok file) × (graph_of_stp file ≡ g) × problem.IsTask file

-- The text of the graph of points and boxes is read back word for word, since each of its edges has its lower end
-- first.
abbrev pub ObstaclesAreReadBack : Type 0
ObstaclesAreReadBack = (o : ObstaclesValue) → AreObstacles o → IsTask o
    → IsProblemOf (graph_stp_text (obstacle_graph_of o)) (obstacle_graph_of o)

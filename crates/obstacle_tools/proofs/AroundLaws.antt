-- All edges of a graph that is read together join its terminals.
use Rattle.std.proofs.Common.{ℕ, List, Ok, subst, sym}
use Rattle.net_graph.specs.Graph.{Graph}
use Rattle.net_graph.specs.Network.{IsNetwork}
use Rattle.graph_solve.specs.Task.{all_edges}
use Rattle.obstacle_tools.specs.Reading.{ReadsAround}

pub reads_joined : (bytes : List ℕ) (g : Graph) → ReadsAround bytes (Ok g) → IsNetwork g (all_edges g)
reads_joined bytes g (o, is, same) =
    subst (λ (h : Graph). IsNetwork h (all_edges h)) (sym same) is.task.joined

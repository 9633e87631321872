-- What `reduce` prints of what it found.
use Rattle.std.proofs.Common.{arith}
use Rattle.net_graph.specs.Graph.{Graph}
use Rattle.graph_tools.specs.declared.lifted.Lifted.{Lifted}
use Rattle.graph_tools.specs.Lifted.{IsLiftedFor, PrintsLifted, lifted_status, lifted_text}

-- A lifted network is printed as it is.
pub lifted_printed : (g : Graph) (l : Lifted) → IsLiftedFor g l →
    PrintsLifted g (record { text = lifted_text l; status = lifted_status l })
lifted_printed g l (r, network, tree, reduced, permitted, same) = grind arith

-- All edges of the graph that was read together join its terminals.
use Rattle.graph_tools.proofs.SolveLaws.{reads_joined}
use Rattle.graph_tools.proofs.reducing.LiftingTextTool.find.Goals as goal

pub lifted_in-requires : goal.lifted_in-requires
lifted_in-requires c = reads_joined c.args.bytes.now c.in_ok-graph.graph c.in_ok-graph.ensures

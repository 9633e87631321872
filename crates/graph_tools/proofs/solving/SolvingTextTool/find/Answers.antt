-- All edges of the graph that was read together join its terminals.
use Rattle.graph_tools.proofs.SolveLaws.{reads_joined}
use Rattle.graph_tools.proofs.solving.SolvingTextTool.find.Goals as goal

pub solution_in-requires : goal.solution_in-requires
solution_in-requires c = reads_joined c.args.bytes.now c.in_ok-graph.graph c.in_ok-graph.ensures

-- All edges of the graph that was read together join its terminals.
use Rattle.obstacle_tools.proofs.AroundLaws.{reads_joined}
use Rattle.obstacle_tools.proofs.around.SolvingAroundTextTool.find.Goals as goal

pub solution_in-requires : goal.solution_in-requires
solution_in-requires c = reads_joined c.args.bytes.now c.in_ok-graph.graph c.in_ok-graph.ensures

use Rattle.obstacle_tools.proofs.ReadingLaws.{task_apart}
use Rattle.obstacle_tools.proofs.reading.task_in.Goals as goal

pub returns : goal.returns
returns c =
    task_apart c.args.obstacles.now c.obstacle_graph.result c.faults_apart.result c.obstacle_graph.ensures.graph
    c.obstacle_graph.ensures.task c.obstacle_graph.ensures.fault c.faults_apart.ensures.same
    c.faults_apart.ensures.fault

use Rattle.graph_tools.proofs.ReadingLaws.{task_apart}
use Rattle.graph_tools.proofs.reading.task_in.Goals as goal

pub returns : goal.returns
returns c =
    task_apart c.args.file.now c.graph_of.result c.faults_apart.result c.graph_of.ensures.graph c.graph_of.ensures.task
    c.graph_of.ensures.fault c.faults_apart.ensures.same c.faults_apart.ensures.fault

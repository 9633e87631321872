use Rattle.obstacle_tools.proofs.ReadingLaws.{text_apart}
use Rattle.obstacle_tools.proofs.reading.text_in.Goals as goal

pub returns : goal.returns
returns c =
    text_apart c.args.bytes.now c.read_obstacles.result c.faults_apart.result c.read_obstacles.ensures.spelled
    c.read_obstacles.ensures.fault c.faults_apart.ensures.same c.faults_apart.ensures.fault

use Rattle.point_tools.proofs.StpLaws.{located_apart}
use Rattle.point_tools.proofs.stp_points.located.Goals as goal

pub returns : goal.returns
returns c =
    located_apart c.args.bytes.now c.read_located.result c.faults_apart.result c.read_located.ensures c.faults_apart.ensures.same
    c.faults_apart.ensures.fault

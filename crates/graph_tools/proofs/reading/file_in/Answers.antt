use Rattle.graph_tools.proofs.ReadingLaws.{file_apart}
use Rattle.graph_tools.proofs.reading.file_in.Goals as goal

pub returns : goal.returns
returns c =
    file_apart c.args.bytes.now c.read_stp.result c.faults_apart.result c.read_stp.ensures.found
    c.read_stp.ensures.fault c.faults_apart.ensures.same c.faults_apart.ensures.fault

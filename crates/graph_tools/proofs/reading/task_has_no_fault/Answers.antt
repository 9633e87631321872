use Rattle.graph_tools.proofs.ReadingLaws.{no_fault}
use Rattle.graph_tools.proofs.reading.task_has_no_fault.Goals as goal

pub returns : goal.returns
returns c = no_fault

use Rattle.obstacle_tools.proofs.ReadingLaws.{no_fault}
use Rattle.obstacle_tools.proofs.reading.around_has_no_fault.Goals as goal

pub returns : goal.returns
returns c = no_fault c.one_outcome.ensures c.values_are_spelled.ensures

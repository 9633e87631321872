-- The one answer.
use Rattle.points_in.proofs.lemmas.ReadSoFar.{only_points, only_fault}
use Rattle.points_in.proofs.read.read_points.Goals as goal

pub returns-clause-only : goal.returns-clause-only
returns-clause-only c = only_points c.args.bytes.now c.points_in_text.result c.points_in_text.ensures

pub returns-clause-only_fault : goal.returns-clause-only_fault
returns-clause-only_fault c = only_fault c.args.bytes.now c.points_in_text.result c.points_in_text.ensures

use Rattle.points_in.specs.TerminalLaws.{terminals_of_contains, terminals_of_distinct}
use Rattle.points_in.proofs.laws.each_point_once.Goals as goal

pub returns-clause-distinct : goal.returns-clause-distinct
returns-clause-distinct c = terminals_of_distinct

pub returns-clause-same_points : goal.returns-clause-same_points
returns-clause-same_points c = terminals_of_contains

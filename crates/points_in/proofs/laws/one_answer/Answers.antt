use Rattle.points_in.specs.FaultLaws.{one_list, one_fault, listed_no_fault}
use Rattle.points_in.proofs.laws.one_answer.Goals as goal

pub returns-clause-points : goal.returns-clause-points
returns-clause-points c = one_list

pub returns-clause-fault : goal.returns-clause-fault
returns-clause-fault c = one_fault

pub returns-clause-never_both : goal.returns-clause-never_both
returns-clause-never_both c = listed_no_fault

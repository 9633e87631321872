-- What is wrong with spelled coordinates is wrong with their line.
use Rattle.std.proofs.Common.{inr}
use Rattle.obstacles_in.proofs.format.ObstaclesFormatSectionFormat.item.Goals as goal

pub returns-in-Some-box_fault-clause-err : goal.returns-in-Some-box_fault-clause-err
returns-in-Some-box_fault-clause-err c =
    inr (c.in-Some.rectangle, c.in-Some.ensures.found, c.in-Some-box_fault.ensures.fault)

-- In each arm the text of the cause is the one that was written.
use Rattle.verdict_line.proofs.cause.write_cause.Goals as goal

pub returns-in-OffGrid : goal.returns-in-OffGrid
returns-in-OffGrid g c = rw c.in-OffGrid.is c.write_line-in-OffGrid.ensures

pub returns-in-WrongLength : goal.returns-in-WrongLength
returns-in-WrongLength g c = rw c.in-WrongLength.is c.write_about_number.ensures

pub returns-in-TooDeep : goal.returns-in-TooDeep
returns-in-TooDeep g c = rw c.in-TooDeep.is c.write_line-in-TooDeep.ensures

pub returns-in-WrongBound : goal.returns-in-WrongBound
returns-in-WrongBound g c = rw c.in-WrongBound.is c.write_about_number-in-WrongBound.ensures

pub returns-in-OffGridVertex : goal.returns-in-OffGridVertex
returns-in-OffGridVertex g c = rw c.in-OffGridVertex.is c.write_line-in-OffGridVertex.ensures

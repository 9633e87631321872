-- In each arm the text of the fault is the one that was written.
use Rattle.fst_file.proofs.fault.FstFaultFormatFault.write.Goals as goal

pub returns-in-TooManyPoints : goal.returns-in-TooManyPoints
returns-in-TooManyPoints g c = rw c.in-TooManyPoints.is c.write_line-in-TooManyPoints.ensures

pub returns-in-TooLong : goal.returns-in-TooLong
returns-in-TooLong g c = rw c.in-TooLong.is c.write_total.ensures

pub returns-in-TooManyTrees : goal.returns-in-TooManyTrees
returns-in-TooManyTrees g c = rw c.in-TooManyTrees.is c.write_line-in-TooManyTrees.ensures

pub returns-in-Memory : goal.returns-in-Memory
returns-in-Memory g c = rw c.in-Memory.is c.literal.ensures

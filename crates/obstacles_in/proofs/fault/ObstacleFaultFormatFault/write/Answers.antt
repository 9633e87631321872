-- In each arm the text of the fault is the one that was written.
use Rattle.obstacles_in.proofs.fault.ObstacleFaultFormatFault.write.Goals as goal

pub returns-in-TooManyPoints : goal.returns-in-TooManyPoints
returns-in-TooManyPoints g c = rw c.in-TooManyPoints.is c.write_line-in-TooManyPoints.ensures

pub returns-in-TooManyBoxes : goal.returns-in-TooManyBoxes
returns-in-TooManyBoxes g c = rw c.in-TooManyBoxes.is c.write_line-in-TooManyBoxes.ensures

pub returns-in-TooLarge : goal.returns-in-TooLarge
returns-in-TooLarge g c = rw c.in-TooLarge.is c.literal.ensures

pub returns-in-Memory : goal.returns-in-Memory
returns-in-Memory g c = rw c.in-Memory.is c.literal-in-Memory.ensures

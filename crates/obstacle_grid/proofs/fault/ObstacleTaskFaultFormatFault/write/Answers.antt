-- In each arm the text of the fault is the one that was written.
use Rattle.obstacle_grid.proofs.fault.ObstacleTaskFaultFormatFault.write.Goals as goal

pub returns-in-TooLong : goal.returns-in-TooLong
returns-in-TooLong g c = rw c.in-TooLong.is c.write_total.ensures

pub returns-in-Apart : goal.returns-in-Apart
returns-in-Apart g c = rw c.in-Apart.is (rw c.from.ensures at c.write_number.ensures)

pub returns-in-Memory : goal.returns-in-Memory
returns-in-Memory g c = rw c.in-Memory.is c.literal.ensures

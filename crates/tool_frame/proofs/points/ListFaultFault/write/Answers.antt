-- In each arm the text of the fault is the one that was written.
use Rattle.tool_frame.proofs.points.ListFaultFault.write.Goals as goal

pub returns-in-BadNumber : goal.returns-in-BadNumber
returns-in-BadNumber g c = rw c.in-BadNumber.is c.write_at.ensures

pub returns-in-NumberTooLarge : goal.returns-in-NumberTooLarge
returns-in-NumberTooLarge g c = rw c.in-NumberTooLarge.is c.write_at-in-NumberTooLarge.ensures

pub returns-in-TooManyPoints : goal.returns-in-TooManyPoints
returns-in-TooManyPoints g c = rw c.in-TooManyPoints.is c.write_at-in-TooManyPoints.ensures

pub returns-in-OddCount : goal.returns-in-OddCount
returns-in-OddCount g c = rw c.in-OddCount.is c.literal.ensures

pub returns-in-NoPoints : goal.returns-in-NoPoints
returns-in-NoPoints g c = rw c.in-NoPoints.is c.literal-in-NoPoints.ensures

pub returns-in-GridTooLong : goal.returns-in-GridTooLong
returns-in-GridTooLong g c = rw c.in-GridTooLong.is c.write_total.ensures

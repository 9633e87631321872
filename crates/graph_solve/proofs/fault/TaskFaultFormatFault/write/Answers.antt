-- In each arm the text of the fault is the one that was written.
use Rattle.graph_solve.proofs.fault.TaskFaultFormatFault.write.Goals as goal

pub returns-in-TooManyNodes : goal.returns-in-TooManyNodes
returns-in-TooManyNodes g c = rw c.in-TooManyNodes.is c.literal.ensures

pub returns-in-TooManyEdges : goal.returns-in-TooManyEdges
returns-in-TooManyEdges g c = rw c.in-TooManyEdges.is c.literal-in-TooManyEdges.ensures

pub returns-in-TooManyTerminals : goal.returns-in-TooManyTerminals
returns-in-TooManyTerminals g c = rw c.in-TooManyTerminals.is c.literal-in-TooManyTerminals.ensures

pub returns-in-NoTerminals : goal.returns-in-NoTerminals
returns-in-NoTerminals g c = rw c.in-NoTerminals.is c.literal-in-NoTerminals.ensures

pub returns-in-TooLong : goal.returns-in-TooLong
returns-in-TooLong g c = rw c.in-TooLong.is c.write_total.ensures

pub returns-in-Apart : goal.returns-in-Apart
returns-in-Apart g c = rw c.in-Apart.is c.write_number-in-Apart.ensures

pub returns-in-Memory : goal.returns-in-Memory
returns-in-Memory g c = rw c.in-Memory.is c.literal-in-Memory.ensures

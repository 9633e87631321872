-- The line of an answer that is accepted is the one that was written.
use Rattle.verdict_line.proofs.line.write_line.Goals as goal

pub returns-in-Accepted : goal.returns-in-Accepted
returns-in-Accepted g c = rw c.in-Accepted.is c.write_accepted.ensures

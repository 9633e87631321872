-- A fault and want of memory leave `out` as it was.
use Rattle.tool_frame.proofs.ending.end_found.Goals as goal

pub returns-in-Err-Fault : goal.returns-in-Err-Fault
returns-in-Err-Fault g c =
    rw (c.in-Err-Fault.is, c.in-Err-Fault.field-0-is) (c.end_refused.ensures (g.O.Sink.state c.args.out.now))

pub returns-in-Err-Memory : goal.returns-in-Err-Memory
returns-in-Err-Memory g c =
    rw (c.in-Err-Memory.is, c.in-Err-Memory.field-0-is) (c.end_starved.ensures (g.O.Sink.state c.args.out.now))

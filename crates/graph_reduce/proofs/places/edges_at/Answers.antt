use Rattle.std.proofs.Common.{arith}
use Rattle.graph_reduce.proofs.lemmas.Seeing.{one_seen, two_seen}
use Rattle.graph_reduce.proofs.places.edges_at.Goals as goal

pub returns-in_default-clause-seen : goal.returns-in_default-clause-seen
returns-in_default-clause-seen c = λ n below is. c.in_default.ensures.next n (omega arith) is

pub returns-in_default-next_end-clause-seen : goal.returns-in_default-next_end-clause-seen
returns-in_default-next_end-clause-seen c = one_seen c.args.work.now c.args.v c.in-Some.one c.in-Some.ensures.next
    c.in_default-next_end.ensures.next

pub returns-in-None-clause-seen : goal.returns-in-None-clause-seen
returns-in-None-clause-seen c = two_seen c.args.work.now c.args.v c.in-Some.one c.in-Some-next_end.two
    c.in-Some.ensures.next c.in-Some-next_end.ensures.next c.in-None.ensures.next

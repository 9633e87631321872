use Rattle.graph_reduce.proofs.lemmas.Seeing.{next_seen}
use Rattle.graph_reduce.proofs.places.next_end.Goals as goal

pub returns-then-ends_in-clause-next : goal.returns-then-ends_in-clause-next
returns-then-ends_in-clause-next c = next_seen c.args.work.now c.args.v c.loop-place.places c.args.from c.in-Some.place
    c.loop-place.invariant c.in-Some.ensures c.if-ends_in.ensures.yes

pub returns-clause-next : goal.returns-clause-next
returns-clause-next c = λ n from is. c.in_default.ensures n from (c.loop-place.invariant n is)

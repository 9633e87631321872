use Rattle.std.proofs.Common.{length-append, arith}
use Rattle.rst_outside.specs.SourceLaws.{came_more}
use Rattle.rst_outside.specs.FedLaws.{fed_more}
use Rattle.rst_outside.proofs.take.feed.feed_all.Goals as goal

-- What was fed in this turn was fed behind what was fed before it.
pub returns-then-n-left-clause-too_long : goal.returns-then-n-left-clause-too_long
returns-then-n-left-clause-too_long g c too_long =
    let (first, used, came, fed) = c.pieces.invariant.fed in
    let (next, size, more, feeds) = c.in_ok-n.ensures.fed in
    (_, omega (arith, length-append first next), came_more _ first _ next _ came more, fed_more g.C.Consumer.stands c.args.consumer.now first c.pieces.consumer next c.feed_some.new.consumer fed feeds)

pub returns-then-n-left-clause-refused : goal.returns-then-n-left-clause-refused
returns-then-n-left-clause-refused g c =
    let (first, used, came, fed) = c.pieces.invariant.fed in
    let (next, size, more, feeds) = c.in_ok-n.ensures.fed in
    (_, came_more _ first _ next _ came more, fed_more g.C.Consumer.stands c.args.consumer.now first c.pieces.consumer next c.feed_some.new.consumer fed feeds)

pub pieces-preserved : goal.pieces-preserved
pieces-preserved g c =
    let (first, used, came, fed) = c.pieces.invariant.fed in
    let (next, size, more, feeds) = c.in_ok-n.ensures.fed in
    record {
      fed = (
        _,
        omega (arith, length-append first next),
        came_more _ first _ next _ came more,
        fed_more g.C.Consumer.stands c.args.consumer.now first c.pieces.consumer next c.feed_some.new.consumer fed feeds,
      );
      count = omega arith;
    }

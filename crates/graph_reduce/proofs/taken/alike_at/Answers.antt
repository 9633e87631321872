use Rattle.std.proofs.Common.{arith}
use Rattle.graph_reduce.proofs.lemmas.Alike.{none_alike, none_alike_left}
use Rattle.graph_reduce.proofs.taken.alike_at.Goals as goal

pub loop-n-preserved : goal.loop-n-preserved
loop-n-preserved c = record {
  places = c.next_end.ensures.places;
  few = omega (arith, c.in-Some.ensures.below);
  none = none_alike c.args.work.now c.args.place c.args.node c.loop-n.from c.in-Some.n c.requires.end
      c.loop-n.invariant.none c.in-Some.ensures.next c.if-is_alike.ensures.no;
}

pub returns-clause-alike : goal.returns-clause-alike
returns-clause-alike c = none_alike_left c.args.work.now c.args.place c.args.node c.loop-n.from c.requires.end
    c.loop-n.invariant.none c.in_default.ensures.next

use Rattle.std.proofs.Common.{get_or, arith}
use Rattle.std.proofs.lemmas.Option.{slice_get-get_or, slice_get_within}
use Rattle.net_graph.proofs.lemmas.ArcLemmas.{AreArcsBelow-more}
use Rattle.net_graph.proofs.arcs.both_ways.Goals as goal

pub loop-n-preserved : goal.loop-n-preserved
loop-n-preserved c =
    grind (
      arith,
      slice_get-get_or c.args.edges.now c.loop-n.n (record { a = 0; b = 0; length = 0 }) c.loop-n-test.true,
      AreArcsBelow-more c.args.edges.now c.loop-n.n (get_or c.args.edges.now c.loop-n.n (record { a = 0; b = 0; length = 0 })) c.loop-n.arcs.items,
    )

pub returns-clause-arcs : goal.returns-clause-arcs
returns-clause-arcs c = grind (arith, slice_get_within)

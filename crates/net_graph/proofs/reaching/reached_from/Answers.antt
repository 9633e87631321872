use Rattle.std.proofs.Common.{arith}
use Rattle.net_graph.proofs.reaching.reached_from.Goals as goal

pub returns-clause-reached : goal.returns-clause-reached
returns-clause-reached g c v = grind (arith, c.in_ok-found.ensures.found v, c.into_set.ensures.flags v)

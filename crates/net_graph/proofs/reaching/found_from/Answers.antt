use Rattle.std.proofs.Common.{arith}
use Rattle.net_graph.specs.Search.{OpenStep}
use Rattle.net_graph.proofs.lemmas.SearchLemmas.{IsGoneOver-start, LeadsFromOne-iff, found_first}
use Rattle.net_graph.proofs.reaching.found_from.Goals as goal

pub search_on-requires-clause-gone_over : goal.search_on-requires-clause-gone_over
search_on-requires-clause-gone_over g c =
    grind (
      arith,
      found_first c.in_ok-found.found.order c.add.new.self.order c.args.start c.in_ok-found.ensures.order c.add.ensures.order,
      IsGoneOver-start (OpenStep c.args.graph.now.edges (g.P.Passage.opens c.args.passage.now)) c.args.start c.args.graph.now.vertices c.requires.start,
      g.P.Passage.opens c.args.passage.now,
    )

pub returns-clause-found : goal.returns-clause-found
returns-clause-found g c v =
    grind (
      arith,
      found_first c.in_ok-found.found.order c.add.new.self.order c.args.start c.in_ok-found.ensures.order c.add.ensures.order,
      LeadsFromOne-iff (OpenStep c.args.graph.now.edges (g.P.Passage.opens c.args.passage.now)) c.args.start v,
      g.P.Passage.opens c.args.passage.now,
      c.search_on.ensures.found v,
    )

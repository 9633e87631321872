use Rattle.std.proofs.Common.{◌≡◌, ◌<◌}
use Rattle.net_graph.specs.Search.{OpenStep}
use Rattle.net_graph.proofs.lemmas.SearchLemmas.{AddsHeads}
use Rattle.net_graph.proofs.reaching.add_next.Given as goal

abbrev pub invariant-loop-arc : goal.invariant-loop-arc
invariant-loop-arc g l =
    AddsHeads (λ w. (w < l.graph.vertices) × OpenStep l.graph.edges (g.P.Passage.opens l.passage) l.vertex w) (g.P.Passage.opens l.passage) l.arc-items l.arc-index l.fn.found.order l.found.order
    × (l.found.size ≡ l.graph.vertices)

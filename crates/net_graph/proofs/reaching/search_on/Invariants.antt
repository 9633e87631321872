use Rattle.std.proofs.Common.{ℕ, ◌≡◌, ◌-◌, Contains}
use Rattle.net_graph.specs.Growth.{LeadsFromOne}
use Rattle.net_graph.specs.Search.{OpenStep}
use Rattle.net_graph.proofs.lemmas.SearchLemmas.{SearchSoFar}
use Rattle.net_graph.proofs.reaching.search_on.Given as goal

abbrev pub invariant-loop-place : goal.invariant-loop-place
invariant-loop-place g l =
    SearchSoFar (OpenStep l.graph.edges (g.P.Passage.opens l.passage)) (LeadsFromOne (OpenStep l.graph.edges (g.P.Passage.opens l.passage)) l.fn.found.order) l.graph.vertices l.place l.found.order
    × (l.found.size ≡ l.graph.vertices)
    × ((v : ℕ) → Contains l.fn.found.order v → Contains l.found.order v)

abbrev pub decreases-loop-place : goal.decreases-loop-place
decreases-loop-place g l = l.graph.vertices - l.place

use Rattle.std.proofs.Common.{ℕ, ◌∙◌, ◌≤◌, ◌<◌, List, length, arith}
use Rattle.net_graph.specs.Growth.{LeadsFromOne}
use Rattle.net_graph.specs.Search.{OpenStep}
use Rattle.net_graph.proofs.lemmas.SearchLemmas.{Extends-keeps, LeadsFromOne-more, SearchSoFar-from_gone_over, SearchSoFar-more, SearchSoFar-all}
use Rattle.net_graph.proofs.reaching.search_on.Goals as goal

pub loop-place-init : goal.loop-place-init
loop-place-init g c = (
  SearchSoFar-from_gone_over (OpenStep c.args.graph.now.edges (g.P.Passage.opens c.args.passage.now)) c.args.graph.now.vertices c.args.place c.args.found.now.order c.requires.gone_over,
  c.requires.size,
  λ v listed. listed,
)

pub loop-place-preserved : goal.loop-place-preserved
loop-place-preserved g c =
    let Step : ℕ → ℕ → Type 0 = OpenStep c.args.graph.now.edges (g.P.Passage.opens c.args.passage.now) in
    let Heads : ℕ → Type 0 = λ w. (w < c.args.graph.now.vertices) × Step c.get.result w in
    let old : List ℕ = c.args.found.now.order in (
      SearchSoFar-more Step (LeadsFromOne Step old) c.args.graph.now.vertices c.loop-place.place c.get.result c.loop-place.found.order c.add_next.new.found.order
          (LeadsFromOne-more Step old) c.loop-place.invariant.0 c.get.ensures c.add_next.ensures.more c.add_next.ensures.every,
      c.add_next.ensures.size ∙ c.loop-place.invariant.1,
      λ v listed. Extends-keeps Heads c.loop-place.found.order c.add_next.new.found.order v c.add_next.ensures.more (c.loop-place.invariant.2 v listed),
    )

pub returns-clause-found : goal.returns-clause-found
returns-clause-found g c =
    let all : length c.loop-place.found.order ≤ c.loop-place.place = omega arith in
    SearchSoFar-all (OpenStep c.args.graph.now.edges (g.P.Passage.opens c.args.passage.now)) c.args.found.now.order c.args.graph.now.vertices c.loop-place.place c.loop-place.found.order
    c.loop-place.invariant.0 c.loop-place.invariant.2 all

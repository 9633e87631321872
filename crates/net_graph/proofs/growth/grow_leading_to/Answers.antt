use Rattle.std.proofs.lemmas.List.{get_or_past}
use Rattle.std.proofs.lemmas.Bool.{both_ways, cases_lt}
use Rattle.std.proofs.Common.{ℕ, ◌<◌, List, subst, arith, length}
use Rattle.net_graph.specs.Growth.{LeadsToOne, HasArc}
use Rattle.net_graph.specs.Search.{Extends}
use Rattle.net_graph.proofs.lemmas.GrowthLemmas.{IsGoneOver-grown, LeadsToOne-iff_back}
use Rattle.net_graph.proofs.growth.grow_leading_to.Goals as goal

pub search_on-requires-clause-gone_over : goal.search_on-requires-clause-gone_over
search_on-requires-clause-gone_over g c =
    let old : List ℕ = c.args.found.now.order in
    let (members, are) = c.len-place.ensures.members in
    let more : Extends (λ u. (u < c.args.graph.now.vertices) × LeadsToOne (HasArc c.args.arcs.now) old u) old c.add_tails.new.found.order =
    subst (λ n. Extends (λ u. (u < n) × LeadsToOne (HasArc c.args.arcs.now) old u) old c.add_tails.new.found.order) c.requires.size c.add_tails.ensures.more in
    rw c.len-place.ensures.len
    (IsGoneOver-grown c.args.graph.now.vertices c.args.graph.now.edges (g.P.Passage.opens c.args.passage.now) c.args.arcs.now old c.add_tails.new.found.order c.requires.closed
    (λ v listed. subst (λ n. v < n) c.requires.size (grind (arith, are.flags v, both_ways, get_or_past, cases_lt v (length members)))) more c.add_tails.ensures.every)

pub returns-clause-leading : goal.returns-clause-leading
returns-clause-leading g c v =
    let old : List ℕ = c.args.found.now.order in
    let more : Extends (λ u. (u < c.args.graph.now.vertices) × LeadsToOne (HasArc c.args.arcs.now) old u) old c.add_tails.new.found.order =
    subst (λ n. Extends (λ u. (u < n) × LeadsToOne (HasArc c.args.arcs.now) old u) old c.add_tails.new.found.order) c.requires.size c.add_tails.ensures.more in
    let same = LeadsToOne-iff_back c.args.graph.now.vertices c.args.graph.now.edges (g.P.Passage.opens c.args.passage.now) c.args.arcs.now old c.add_tails.new.found.order c.requires.closed more v in
    let all = c.search_on.ensures.found v in
    (λ listed. same.0 (all.0 listed), λ led. all.1 (same.1 led))

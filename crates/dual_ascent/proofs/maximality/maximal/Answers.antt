use Rattle.std.proofs.Common.{◌≡◌, ◌∙◌, ap, length, ◌↔◌, IsTrue, All, true}
use Rattle.net_graph.specs.Decision.{states_of}
use Rattle.net_graph.specs.DecisionLaws.{length-states_of}
use Rattle.net_graph.specs.Flags.{has}
use Rattle.dual_ascent.proofs.lemmas.AscentLemmas.{IsMaximal-iff_marked}
use Rattle.dual_ascent.proofs.maximality.maximal.Goals as goal
use Rattle.dual_ascent.specs.CostLaws.{length-costs_of}

pub reached_from-requires-clause-edges : goal.reached_from-requires-clause-edges
reached_from-requires-clause-edges c = ap length c.in_ok-costs.ensures ∙ length-costs_of c.args.g.now.edges (states_of c.args.g.now c.args.d.now) c.args.packing.now (length-states_of c.args.g.now c.args.d.now c.requires.edges)

pub returns : goal.returns
returns c =
    let all : IsTrue c.has_all.result ↔ All (λ v. has c.in_ok-reached.reached v ≡ true) c.in_ok-required.required.items = rw c.deref.ensures.value at c.has_all.ensures in
    IsMaximal-iff_marked c.args.g.now c.args.d.now c.args.packing.now c.in_ok-costs.costs c.in_ok-required.required.items c.in_ok-reached.reached c.root.result c.has_all.result
    c.requires c.in_ok-costs.ensures c.in_ok-required.ensures.required c.root.ensures.root c.in_ok-reached.ensures.reached all

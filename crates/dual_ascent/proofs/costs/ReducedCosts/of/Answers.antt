use Rattle.std.proofs.lemmas.List.{take_more}
use Rattle.std.proofs.Common.{◌∙◌, ap, map, take, arith}
use Rattle.net_graph.specs.declared.packing.Cut.{Cut}
use Rattle.net_graph.specs.Decision.{states_of}
use Rattle.net_graph.specs.DecisionLaws.{length-states_of}
use Rattle.dual_ascent.specs.Costs.{lowered_by, edges_of, costs_of}
use Rattle.dual_ascent.proofs.lemmas.LoadLemmas.{edges-costs_of, map-lowered_by}
use Rattle.dual_ascent.proofs.costs.ReducedCosts.of.Goals as goal

pub list_entering-requires : goal.list_entering-requires
list_entering-requires c = ap edges_of c.loop-cut.invariant ∙ edges-costs_of c.args.g.now.edges (states_of c.args.g.now c.args.d.now) (take c.loop-cut.cut-index c.cuts-cut-items.result.now) (length-states_of c.args.g.now c.args.d.now c.requires.edges)

pub loop-cut-preserved : goal.loop-cut-preserved
loop-cut-preserved c =
    let cuts = c.cuts-cut-items.result.now in
    let cut : Cut = c.cut-item.result in
    c.lower.ensures ∙ ap (map (lowered_by cut)) c.loop-cut.invariant
    ∙ ap (λ (x : Cut). map (lowered_by x) (costs_of c.args.g.now.edges (states_of c.args.g.now c.args.d.now) (take c.loop-cut.cut-index cuts))) c.cut-item.is
    ∙ (grind (arith, map-lowered_by, take_more))

use Rattle.std.proofs.Common.{◌∙◌, List, ◌++◌, append-nil, ap, sym, subst, sum_by, ◌+◌, arith}
use Rattle.net_graph.specs.declared.packing.Cut.{Cut}
use Rattle.net_graph.specs.Decision.{states_of}
use Rattle.net_graph.specs.DecisionLaws.{length-states_of}
use Rattle.dual_ascent.specs.Carried.{carried}
use Rattle.dual_ascent.specs.Costs.{edges_of}
use Rattle.edge_slack.specs.EdgeBound.{IsEdgeBound, IsLowerBoundWith}
use Rattle.edge_slack.proofs.BeginningLemmas.{AreLeftBehind-alone, Bounds-behind, DecidesOneMore-taken_in, edges-costs, within-from_use}
use Rattle.edge_slack.proofs.beginning.carried_edge_bound.Goals as goal

pub taking_in-requires : goal.taking_in-requires
taking_in-requires g c = within-from_use c.args.g.now c.args.e c.requires.some

pub carry_rooms-requires-clause-one_more : goal.carry_rooms-requires-clause-one_more
carry_rooms-requires-clause-one_more g c =
    DecidesOneMore-taken_in c.args.g.now c.args.start.now.decision c.in_ok-now.now c.args.e c.requires.some c.requires.start.nothing c.in_ok-now.ensures.value

pub required_with-requires-clause-edge : goal.required_with-requires-clause-edge
required_with-requires-clause-edge g c = within-from_use c.args.g.now c.args.e c.requires.some

pub ascend_on-requires-clause-edges : goal.ascend_on-requires-clause-edges
ascend_on-requires-clause-edges g c =
    let gr = c.args.g.now in
    let now = c.in_ok-now.now in
    ap edges_of c.in_ok-carried.ensures.left.left
    ∙ edges-costs gr.edges (states_of gr now) (carried gr now c.args.start.now.packing) (length-states_of gr now c.in_ok-now.ensures.decision.edges)

pub edge-requires : goal.edge-requires
edge-requires g c = within-from_use c.args.g.now c.args.e c.requires.some

pub overflow_add-weight : goal.overflow_add-weight
overflow_add-weight g c =
    let first : List Cut = carried c.args.g.now c.in_ok-now.now c.args.start.now.packing in
    let left = AreLeftBehind-alone c.args.g.now c.in_ok-now.now first c.empty-more.result c.in_ok-carried.carried.costs c.empty-more.ensures c.in_ok-carried.ensures.left in
    let bounds = Bounds-behind c.args.g.now c.args.e c.edge.result c.in_ok-now.now (first ++ c.empty-more.result) first c.in_ok-ascent.ascent
    c.in_ok-carried.carried.weight c.total_weight.result c.requires.some c.edge.ensures.edge c.in_ok-now.ensures.value c.in_ok-carried.ensures.weight
    (c.total_weight.ensures.sum ∙ ap (λ cuts. sum_by (λ (x : Cut). x.weight) cuts) c.cuts.ensures) (c.in_ok-ascent.ensures first left) in
    omega (arith, bounds.within, c.from-length.ensures, c.edge_count.ensures.graph.total)

pub overflow_add-result : goal.overflow_add-result
overflow_add-result g c =
    grind (arith, append-nil (carried (c.args.g.now) (c.in_ok-now.now) c.args.start.now.packing), Bounds-behind)

pub overflow_cast-result : goal.overflow_cast-result
overflow_cast-result g c =
    grind (arith, append-nil (carried (c.args.g.now) (c.in_ok-now.now) c.args.start.now.packing), Bounds-behind)

pub returns : goal.returns
returns g c =
    let first : List Cut = carried c.args.g.now c.in_ok-now.now c.args.start.now.packing in
    let left = AreLeftBehind-alone c.args.g.now c.in_ok-now.now first c.empty-more.result c.in_ok-carried.carried.costs c.empty-more.ensures c.in_ok-carried.ensures.left in
    let bounds = Bounds-behind c.args.g.now c.args.e c.edge.result c.in_ok-now.now (first ++ c.empty-more.result) first c.in_ok-ascent.ascent
    c.in_ok-carried.carried.weight c.total_weight.result c.requires.some c.edge.ensures.edge c.in_ok-now.ensures.value c.in_ok-carried.ensures.weight
    (c.total_weight.ensures.sum ∙ ap (λ cuts. sum_by (λ (x : Cut). x.weight) cuts) c.cuts.ensures) (c.in_ok-ascent.ensures first left) in
    record {
      value = subst (λ m. IsEdgeBound c.args.g.now c.args.e (c.in_ok-carried.carried.weight + c.total_weight.result + m)) (sym c.from-length.ensures) bounds.value;
      bound = subst (λ m. IsLowerBoundWith c.args.g.now c.args.e (c.in_ok-carried.carried.weight + c.total_weight.result + m)) (sym c.from-length.ensures) bounds.least;
      total = omega (arith, bounds.within, c.from-length.ensures);
    }

use Rattle.std.proofs.Common.{refl, subst}
use Rattle.net_graph.specs.Decision.{IsLowerBoundUnder}
use Rattle.net_graph.specs.Packing.{IsFeasible, packing_value}
use Rattle.edge_slack.specs.EdgeBound.{edge_taken_in}
use Rattle.edge_slack.proofs.EdgeBoundLemmas.{IsLowerBoundWith-under, IsMaximal-not_closed, bound-le-total}
use Rattle.edge_slack.proofs.bound.edge_bound.Goals as goal

pub returns-clause-maximal : goal.returns-clause-maximal
returns-clause-maximal g c =
    let a = c.in_ok-ascent.ensures in
    IsMaximal-not_closed c.args.g.now c.args.e c.in_ok-d.d c.in_ok-ascent.ascent.closed c.in_ok-ascent.ascent.packing c.requires c.in_ok-d.ensures.value a.maximal a.closing

pub returns-clause-value : goal.returns-clause-value
returns-clause-value g c =
    let a = c.in_ok-ascent.ensures in
    let packing = c.in_ok-ascent.ascent.packing in (
      packing,
      subst (λ d. IsFeasible c.args.g.now d packing) c.in_ok-d.ensures.value a.feasible,
      IsMaximal-not_closed c.args.g.now c.args.e c.in_ok-d.d c.in_ok-ascent.ascent.closed packing c.requires c.in_ok-d.ensures.value a.maximal a.closing,
      refl,
    )

pub returns-clause-bound : goal.returns-clause-bound
returns-clause-bound g c =
    let packing = c.in_ok-ascent.ascent.packing in
    IsLowerBoundWith-under c.args.g.now c.args.e (packing_value c.args.g.now (edge_taken_in c.args.g.now c.args.e) packing)
    (subst (λ d. IsLowerBoundUnder c.args.g.now d (packing_value c.args.g.now d packing)) c.in_ok-d.ensures.value c.in_ok-ascent.ensures.bound)

pub returns-clause-total : goal.returns-clause-total
returns-clause-total g c =
    let packing = c.in_ok-ascent.ascent.packing in
    bound-le-total c.args.g.now c.args.e (packing_value c.args.g.now (edge_taken_in c.args.g.now c.args.e) packing) c.requires
    (subst (λ d. IsLowerBoundUnder c.args.g.now d (packing_value c.args.g.now d packing)) c.in_ok-d.ensures.value c.in_ok-ascent.ensures.bound)

use Rattle.std.proofs.Common.{ℕ, ◌≡◌, ◌↔◌, true, Bool, List, slice_get, Some, subst, Contains}
use Rattle.std.proofs.lemmas.List.Elements.{All-contains}
use Rattle.std.proofs.lemmas.Result.{IfOk-weaker}
use Rattle.net_graph.specs.declared.arcs.Arc.{Arc}
use Rattle.dual_ascent.specs.Costs.{costs_of, is_saturated}
use Rattle.net_graph.specs.declared.packing.Cut.{Cut}
use Rattle.net_graph.specs.Decision.{Decided, IsDecisionFor, states_of}
use Rattle.net_graph.specs.Graph.{Graph}
use Rattle.dual_ascent.specs.declared.costs.EdgeCosts.{EdgeCosts}
use Rattle.dual_ascent.specs.CostLaws.{length-left, saturated_edge}
use Rattle.branch.specs.SaturatedArcs.{HasSaturatedArc, IsOfSaturated, IsUsedUpEdge}
use Rattle.branch.proofs.lemmas.SaturatedLemmas.{IsNetwork-saturated, HasSaturatedArc-used_up}
use Rattle.branch.proofs.saturated.saturated_network_by.Goals as goal

pub found_arcs-requires : goal.found_arcs-requires
found_arcs-requires c = length-left _ _ _ _ c.requires.decision c.requires.costs

pub saturated_edges-requires : goal.saturated_edges-requires
saturated_edges-requires c = length-left _ _ _ _ c.requires.decision c.requires.costs

pub returns-then-branch-clause-saturated : goal.returns-then-branch-clause-saturated
returns-then-branch-clause-saturated c n inside =
    let g = c.args.g.now in
    let (arc, listed, same) = c.in_ok-kept.ensures.edges n inside in
    let own : IsOfSaturated g c.args.costs.now arc =
    All-contains (IsOfSaturated g c.args.costs.now) c.in_ok-arcs.arcs.items arc c.in_ok-arcs.ensures
    (subst (λ (list : List Arc). Contains list arc) c.deref.ensures.value listed) in
    subst (HasSaturatedArc g c.args.d.now c.args.packing.now) same
    (saturated_edge g c.args.d.now c.args.packing.now c.requires.decision arc.number
    (subst (λ costs. is_saturated costs arc.number ≡ true) c.requires.costs own.saturated))

-- the set of the edges of which an arc is used up is that of the edges with a saturated arc
all_saturated : (g : Graph) (d : Decided) (packing : List Cut) (costs : List EdgeCosts) (set : List Bool) → IsDecisionFor g d →
    costs ≡ costs_of g.edges (states_of g d) packing → ((n : ℕ) → (slice_get set n ≡ Some true) ↔ IsUsedUpEdge costs n) →
    (n : ℕ) → (slice_get set n ≡ Some true) ↔ HasSaturatedArc g d packing n
all_saturated g d packing costs set size is each n =
    let same = HasSaturatedArc-used_up g d packing size n in (
      λ inside. same.0 (subst (λ (list : List EdgeCosts). IsUsedUpEdge list n) is ((each n).0 inside)),
      λ has. (each n).1 (rw is (same.1 has)),
    )

pub returns-clause-network : goal.returns-clause-network
returns-clause-network c =
    let g = c.args.g.now in
    IfOk-weaker c.saturated_edges.result _ _
    (λ set each. IsNetwork-saturated g c.args.d.now c.args.packing.now set c.requires.maximal
    (all_saturated g c.args.d.now c.args.packing.now c.args.costs.now set c.requires.decision c.requires.costs each))
    c.saturated_edges.ensures.saturated

pub returns-clause-saturated : goal.returns-clause-saturated
returns-clause-saturated c =
    IfOk-weaker c.saturated_edges.result _ _
    (λ set each n. (all_saturated c.args.g.now c.args.d.now c.args.packing.now c.args.costs.now set c.requires.decision
    c.requires.costs each n).0)
    c.saturated_edges.ensures.saturated

-- What a carried packing leaves of the rooms.
use Rattle.std.proofs.Common.{ℕ, ◌≡◌, ◌≤◌, Bool, refl, not, List, map, length, slice_get, Some, arith}
use Rattle.std.specs.List.{list_any, zip}
use Rattle.std.proofs.lemmas.List.Filters.{length-filter_both}
use Rattle.net_graph.specs.declared.edge.Edge.{Edge}
use Rattle.net_graph.specs.declared.packing.Cut.{Cut}
use Rattle.net_graph.specs.declared.state.EdgeState.{EdgeState}
use Rattle.net_graph.specs.declared.state.EdgeState.TheVariants.{Inside}
use Rattle.net_graph.specs.Graph.{Graph}
use Rattle.net_graph.specs.Decision.{Decided, IsDecisionFor, states_of}
use Rattle.net_graph.specs.DecisionLaws.{length-states_of}
use Rattle.net_graph.specs.Packing.{load, IsFeasible}
use Rattle.dual_ascent.specs.declared.costs.EdgeCosts.{EdgeCosts}
use Rattle.dual_ascent.specs.Carried.{DecidesOneMore, inside_edges, is_entered_along, unentered}
use Rattle.dual_ascent.specs.Costs.{costs_of, left_in}
use Rattle.dual_ascent.proofs.lemmas.CarriedCostLemmas.{costs_in}
use Rattle.dual_ascent.proofs.lemmas.CarriedLemmas.{room_kept, undecided_before}

-- under the further decision, of what its cuts leave before
pub left_under : (g : Graph) (before now : Decided) (parent : List Cut) → IsDecisionFor g before → IsDecisionFor g now →
    DecidesOneMore g before now → IsFeasible g before parent →
    map (λ (pair : EdgeCosts × EdgeState). left_in pair.0 pair.1)
    (zip (costs_of g.edges (states_of g before) (unentered (inside_edges g.edges now.edges) parent)) (states_of g now))
    ≡ costs_of g.edges (states_of g now) (unentered (inside_edges g.edges now.edges) parent)
left_under g before now parent decided decision one_more feasible =
    let kept : List Cut = unentered (inside_edges g.edges now.edges) parent in
    let unloaded : (n : ℕ) (e : Edge) → slice_get g.edges n ≡ Some e → slice_get (states_of g now) n ≡ Some Inside →
    (load kept e.a e.b ≡ 0) × (load kept e.b e.a ≡ 0) =
    (λ n e at inside. let most = room_kept g before now parent n e Inside one_more feasible at inside in
    (omega (arith, most.0), omega (arith, most.1))) in
    costs_in g.edges (states_of g before) (states_of g now) kept
    (length-states_of g before decided.edges) (length-states_of g now decision.edges)
    (λ n undecided. undecided_before g before now n one_more undecided) unloaded

-- no cut is added
pub unentered-le : (edges : List Edge) (parent : List Cut) → length (unentered edges parent) ≤ length parent
unentered-le edges parent =
    let test : Cut → Bool = λ c. not (list_any (is_entered_along c.members) edges) in
    omega (arith, length-filter_both test (λ c. not (test c)) (λ c. refl) parent)

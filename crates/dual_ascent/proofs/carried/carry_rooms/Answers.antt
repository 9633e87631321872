use Rattle.std.proofs.Common.{◌≡◌, ◌∙◌, List, map, sum_by, ap, sym, subst, arith}
use Rattle.std.specs.List.{zip}
use Rattle.net_graph.specs.declared.packing.Cut.{Cut}
use Rattle.net_graph.specs.declared.state.EdgeState.{EdgeState}
use Rattle.net_graph.specs.Decision.{states_of}
use Rattle.dual_ascent.specs.declared.costs.EdgeCosts.{EdgeCosts}
use Rattle.dual_ascent.specs.Ascending.{AreLeftBehind}
use Rattle.dual_ascent.specs.Carried.{carried, inside_edges, unentered}
use Rattle.dual_ascent.specs.Costs.{costs_of, left_in}
use Rattle.dual_ascent.proofs.lemmas.CarriedLemmas.{IsFeasible-unentered}
use Rattle.dual_ascent.proofs.lemmas.CarriedRoomLemmas.{left_under, unentered-le}
use Rattle.dual_ascent.proofs.carried.carry_rooms.Goals as goal

pub returns : goal.returns
returns c =
    let g = c.args.g.now in
    let before = c.args.before.now in
    let now = c.args.now.now in
    let parent = c.args.parent.now in
    let kept : List Cut = unentered (inside_edges g.edges now.edges) parent in
    let all : carried g now parent ≡ kept = grind (arith, unentered-le) in
    let inside = c.deref.ensures.value ∙ c.in_ok-inside.ensures in
    let left : c.in_ok-left.left.costs ≡ costs_of g.edges (states_of g before) kept =
    c.in_ok-left.ensures.costs
    ∙ ap (λ es. costs_of g.edges (states_of g before) (unentered es c.cuts.result.now)) inside
    ∙ ap (λ cs. costs_of g.edges (states_of g before) (unentered (inside_edges g.edges now.edges) cs)) c.cuts.ensures in
    let weight : c.in_ok-left.left.weight ≡ sum_by (λ (x : Cut). x.weight) kept =
    c.in_ok-left.ensures.weight
    ∙ ap (λ es. sum_by (λ (x : Cut). x.weight) (unentered es c.cuts.result.now)) inside
    ∙ ap (λ cs. sum_by (λ (x : Cut). x.weight) (unentered (inside_edges g.edges now.edges) cs)) c.cuts.ensures in
    record {
      left = subst (λ p. AreLeftBehind g now p c.in_ok-costs.costs) (sym all) (record {
        feasible = IsFeasible-unentered g before now parent c.requires.one_more c.requires.feasible;
        few = omega (arith, unentered-le (inside_edges g.edges now.edges) parent, c.requires.few);
        left = c.in_ok-costs.ensures
            ∙ ap (λ xs. map (λ (pair : EdgeCosts × EdgeState). left_in pair.0 pair.1) (zip xs (states_of g now))) left
            ∙ left_under g before now parent c.requires.decided c.requires.decision c.requires.one_more c.requires.feasible;
      });
      weight = weight ∙ ap (sum_by (λ (x : Cut). x.weight)) (sym all);
    }

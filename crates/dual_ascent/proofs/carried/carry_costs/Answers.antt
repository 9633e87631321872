use Rattle.std.proofs.Common.{◌≡◌, ◌∙◌, ◌*◌, refl, true, false, List, [], nat_le, map, length, ap, sym, ⊎_elim, arith}
use Rattle.std.specs.List.{zip}
use Rattle.std.proofs.lemmas.Bool.{cases_Bool}
use Rattle.std.proofs.lemmas.Result.{IfOk-weaker}
use Rattle.net_graph.specs.declared.packing.Cut.{Cut}
use Rattle.net_graph.specs.declared.state.EdgeState.{EdgeState}
use Rattle.net_graph.specs.Decision.{states_of}
use Rattle.dual_ascent.specs.declared.costs.EdgeCosts.{EdgeCosts}
use Rattle.dual_ascent.specs.Carried.{carried, inside_edges, unentered}
use Rattle.dual_ascent.specs.Costs.{costs_of, left_in}
use Rattle.dual_ascent.proofs.lemmas.CarriedRoomLemmas.{left_under}
use Rattle.dual_ascent.proofs.carried.carry_costs.Goals as goal

pub returns : goal.returns
returns c =
    let g = c.args.g.now in
    let before = c.args.before.now in
    let now = c.args.now.now in
    let parent = c.args.parent.now in
    let kept : List Cut = unentered (inside_edges g.edges now.edges) parent in
    let same : c.args.kept.now ≡ kept = ⊎_elim
    (λ (few : nat_le (length kept) (2 * length g.edges) ≡ true). c.requires.kept ∙ rw few refl)
    (λ (many : nat_le (length kept) (2 * length g.edges) ≡ false).
    let none : carried g now parent ≡ [] = rw many refl in
    let gone : length c.args.kept.now ≡ 0 = ap length (c.requires.kept ∙ none) in
    absurd (omega (arith, gone, c.len.ensures, c.if-len-eq0.false)))
    (cases_Bool (nat_le (length kept) (2 * length g.edges))) in
    let left : c.in_ok-left.left.costs ≡ costs_of g.edges (states_of g before) kept =
    c.in_ok-left.ensures.costs
    ∙ ap (λ es. costs_of g.edges (states_of g before) (unentered es c.cuts.result.now)) (c.deref.ensures.value ∙ c.in_ok-inside.ensures)
    ∙ ap (λ cs. costs_of g.edges (states_of g before) (unentered (inside_edges g.edges now.edges) cs)) c.cuts.ensures in
    IfOk-weaker c.under.result _ _
    (λ cs is. is ∙ ap (λ xs. map (λ (pair : EdgeCosts × EdgeState). left_in pair.0 pair.1) (zip xs (states_of g now))) left
    ∙ left_under g before now parent c.requires.decided c.requires.decision c.requires.one_more c.requires.feasible
    ∙ ap (costs_of g.edges (states_of g now)) (sym same))
    c.under.ensures

use Rattle.std.proofs.Common.{◌≡◌, ◌<◌, ◌*◌, get_or, length, take, ap, sym, subst, ◌∙◌, arith}
use Rattle.std.proofs.lemmas.List.{length-map, take_all, take_more}
use Rattle.dual_ascent.specs.declared.costs.EdgeCosts.{EdgeCosts}
use Rattle.dual_ascent.specs.declared.entering.EnteringArc.{EnteringArc}
use Rattle.dual_ascent.specs.Costs.{cost_of, edges_of, left_after}
use Rattle.dual_ascent.specs.Entering.{EntersLeft}
use Rattle.dual_ascent.proofs.lemmas.ArcLemmas.{IsArcOf-number}
use Rattle.dual_ascent.proofs.lemmas.EnteringLemmas.{ChangedSoFar, ChangedSoFar-none, ChangedSoFar-more, lowered_is}
use Rattle.dual_ascent.proofs.costs.ReducedCosts.lower.Goals as goal

pub loop-e-init : goal.loop-e-init
loop-e-init c = ChangedSoFar-none left_after c.args.self.now c.args.cut.now.weight

pub set_cost-requires : goal.set_cost-requires
set_cost-requires c =
    let d : EnteringArc = record { arc = record { number = 0; from = 0; to = 0 }; left = 0 } in
    let e : EnteringArc = get_or c.args.entering.now c.loop-e.e-index d in
    let own : EntersLeft c.args.self.now c.args.cut.now.members e = c.requires.each c.loop-e.e-index d c.loop-e-test.true in
    let low : e.arc.number < 2 * length (edges_of c.args.self.now) = IsArcOf-number (edges_of c.args.self.now) e.arc own.arc in
    omega (arith, low, ap length c.loop-e.invariant.edges, length-map c.loop-e.self (λ (x : EdgeCosts). x.edge))

pub loop-e-preserved : goal.loop-e-preserved
loop-e-preserved c =
    let d : EnteringArc = record { arc = record { number = 0; from = 0; to = 0 }; left = 0 } in
    let i = c.loop-e.e-index in
    let list = c.args.entering.now in
    let e : EnteringArc = get_or list i d in
    let own : EntersLeft c.args.self.now c.args.cut.now.members e = c.requires.each i d c.loop-e-test.true in
    let here : cost_of c.set_cost.new.self e.arc.number ≡ left_after (cost_of c.args.self.now e.arc.number) c.args.cut.now.weight =
    c.set_cost.ensures.changed ∙ (grind arith)
    ∙ ap (λ x. left_after x c.args.cut.now.weight) (sym own.left) in
    subst (λ xs. ChangedSoFar left_after c.args.self.now c.args.cut.now.weight xs c.set_cost.new.self) (sym (take_more list i d c.loop-e-test.true))
    (ChangedSoFar-more left_after c.args.self.now c.loop-e.self c.set_cost.new.self c.args.cut.now.weight (take i list) e c.loop-e.invariant here
    c.set_cost.ensures.edges c.set_cost.ensures.others)

pub returns : goal.returns
returns c =
    let all = take_all c.loop-e.e-index c.args.entering.now (omega arith) in
    lowered_is c.args.self.now c.loop-e.self c.args.cut.now c.args.entering.now c.requires
    (subst (λ xs. ChangedSoFar left_after c.args.self.now c.args.cut.now.weight xs c.loop-e.self) all c.loop-e.invariant)

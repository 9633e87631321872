use Rattle.std.proofs.Common.{◌∙◌, Some, None, get_or, take, ap, sym, subst, arith}
use Rattle.std.specs.Prelude.{IfSome}
use Rattle.std.proofs.lemmas.List.{take_all, take_more}
use Rattle.net_graph.specs.declared.arcs.Arc.{Arc}
use Rattle.net_graph.specs.Arcs.{IsArcOf, AreArcsFrom}
use Rattle.dual_ascent.specs.Entering.{EntersLeft}
use Rattle.dual_ascent.proofs.lemmas.EnteringLemmas.{EnteringSoFar, EnteringSoFar-none, EnteringSoFar-skip, EnteringSoFar-push, EnteringSoFar-all, HasOnly}
use Rattle.dual_ascent.proofs.entering.list_entering_at.Goals as goal
use Rattle.dual_ascent.proofs.entering.list_entering_at.Goals.{in-Some+in_ok-push, in_default}

pub loop-along-init : goal.loop-along-init
loop-along-init c = EnteringSoFar-none c.args.costs.now c.args.members.now c.args.v c.args.list.now.items c.requires.below

pub entering_against-requires-clause-arc : goal.entering_against-requires-clause-arc
entering_against-requires-clause-arc c =
    grind (arith, c.arcs_from-along-items.ensures.arcs.each c.loop-along.along-index (record { number = 0; from = 0; to = 0 }) c.loop-along-test.true)

pub loop-along-preserved : goal.loop-along-preserved
loop-along-preserved c =
    let none : Arc = record { number = 0; from = 0; to = 0 } in
    let costs = c.args.costs.now in
    let members = c.args.members.now in
    let arcs = c.arcs_from-along-items.result.now in
    let i = c.loop-along.along-index in
    let along : Arc = get_or arcs i none in
    let list = c.loop-along.list.items in
    let so_far = c.loop-along.invariant in
    elim c.match-entering_against.branch [
      | in-Some+in_ok-push w ↦
          let one = w.in-Some.entering in
          let own : EntersLeft costs members one = subst (λ o. IfSome o (EntersLeft costs members)) w.in-Some.is c.entering_against.ensures.enters in
          let only : HasOnly costs members along (Some one) = subst (HasOnly costs members along) w.in-Some.is c.entering_against.ensures.only in
          rw (ap (λ l. l.items) w.list-is ∙ w.in_ok-push.ensures.items, take_more arcs i none c.loop-along-test.true)
          (EnteringSoFar-push costs members c.args.v (take i arcs) along list one so_far own only)
      | in_default w ↦
          let only : HasOnly costs members along None = subst (HasOnly costs members along) w.in_default.is c.entering_against.ensures.only in
          rw (ap (λ l. l.items) w.list-is, take_more arcs i none c.loop-along-test.true)
          (EnteringSoFar-skip costs members c.args.v (take i arcs) along list so_far only)
    ]

pub returns : goal.returns
returns c =
    let costs = c.args.costs.now in
    let arcs = c.arcs_from-along-items.result.now in
    let all = take_all c.loop-along.along-index arcs (omega arith) in
    EnteringSoFar-all costs c.args.members.now c.args.v arcs c.loop-along.list.items
    (subst (λ es. AreArcsFrom (IsArcOf es) c.args.v arcs) (sym c.requires.edges) c.arcs_from-along-items.ensures.arcs)
    (subst (λ gone. EnteringSoFar costs c.args.members.now c.args.v gone c.loop-along.list.items) all c.loop-along.invariant)

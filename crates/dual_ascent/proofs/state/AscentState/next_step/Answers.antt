use Rattle.std.proofs.Common.{◌≡◌, ◌∙◌, ◌<◌, List, Some, None, length, map, vec_len, eqb-true, subst, sym, ap, refl, arith}
use Rattle.std.proofs.lemmas.List.{length-map}
use Rattle.net_graph.specs.Found.{HasMembers}
use Rattle.dual_ascent.specs.declared.active.ActiveVertex.{ActiveVertex}
use Rattle.dual_ascent.specs.declared.entering.EnteringArc.{EnteringArc}
use Rattle.dual_ascent.specs.declared.step.Step.TheVariants.{Pack, Close}
use Rattle.dual_ascent.specs.Active.{candidate_of}
use Rattle.dual_ascent.specs.Costs.{IsLeastOf}
use Rattle.dual_ascent.specs.Entering.{IsLeftOfOne}
use Rattle.dual_ascent.proofs.lemmas.EnteringLemmas.{IsLeastOf-entering}
use Rattle.dual_ascent.proofs.lemmas.StepLemmas.{IsNextStep-active, all_reached}
use Rattle.dual_ascent.proofs.state.AscentState.next_step.Goals as goal

pub returns-then-is_empty-clause-next : goal.returns-then-is_empty-clause-next
returns-then-is_empty-clause-next g c vertices active =
    let list : List ActiveVertex = c.args.self.now.active.items in
    let none : vec_len c.list_candidates.new.list ≡ 0 = eqb-true (vec_len c.list_candidates.new.list) 0 (sym c.is_empty.ensures ∙ c.if-is_empty.true) in
    let are : c.list_candidates.new.list.items ≡ map candidate_of list = c.in_ok-list_candidates.ensures ∙ ap (map candidate_of) c.deref.ensures.value in
    let count : length list ≡ 0 = omega (arith, ap length are, length-map list candidate_of) in
    all_reached c.args.g.now c.args.self.now.costs vertices list active count

pub pack-requires-clause-next : goal.pack-requires-clause-next
pack-requires-clause-next g c =
    let (vertices, active) = c.requires.active in
    let list : List ActiveVertex = c.args.self.now.active.items in
    let a : ActiveVertex = c.index.result.now in
    let are : c.list_candidates.new.list.items ≡ map candidate_of list = c.in_ok-list_candidates.ensures ∙ ap (map candidate_of) c.deref.ensures.value in
    let within : c.choose-place.result < length list = omega (arith, c.choose-place.ensures.place, ap length are, length-map list candidate_of, ap length c.deref-2.ensures.value) in
    let members : HasMembers a.leading c.in_ok-members.members = subst (HasMembers a.leading) (sym c.in_ok-members.ensures) c.set.ensures in
    let least : IsLeastOf (IsLeftOfOne c.list_entering.new.list.items) (Some c.in-Some.weight) =
    subst (λ (xs : List EnteringArc). IsLeastOf (IsLeftOfOne xs) (Some c.in-Some.weight)) c.deref-3.ensures.value c.in-Some.ensures in (
      vertices,
      active,
      IsNextStep-active c.args.g.now c.args.self.now.costs vertices list c.choose-place.result a c.in_ok-members.members
          (Pack (record { weight = c.in-Some.weight; members = c.in_ok-members.members })) c.requires.edges active within c.index.ensures members
          (refl, IsLeastOf-entering c.args.self.now.costs c.in_ok-members.members c.list_entering.new.list.items (Some c.in-Some.weight) c.in_ok-list_entering.ensures least),
    )

pub returns-in_ok-pack-in-Some-clause-next : goal.returns-in_ok-pack-in-Some-clause-next
returns-in_ok-pack-in-Some-clause-next g c vertices active =
    let list : List ActiveVertex = c.args.self.now.active.items in
    let a : ActiveVertex = c.index.result.now in
    let are : c.list_candidates.new.list.items ≡ map candidate_of list = c.in_ok-list_candidates.ensures ∙ ap (map candidate_of) c.deref.ensures.value in
    let within : c.choose-place.result < length list = omega (arith, c.choose-place.ensures.place, ap length are, length-map list candidate_of, ap length c.deref-2.ensures.value) in
    let members : HasMembers a.leading c.in_ok-members.members = subst (HasMembers a.leading) (sym c.in_ok-members.ensures) c.set.ensures in
    let least : IsLeastOf (IsLeftOfOne c.list_entering.new.list.items) (Some c.in-Some.weight) =
    subst (λ (xs : List EnteringArc). IsLeastOf (IsLeftOfOne xs) (Some c.in-Some.weight)) c.deref-3.ensures.value c.in-Some.ensures in
    IsNextStep-active c.args.g.now c.args.self.now.costs vertices list c.choose-place.result a c.in_ok-members.members
    (Pack (record { weight = c.in-Some.weight; members = c.in_ok-members.members })) c.requires.edges active within c.index.ensures members
    (refl, IsLeastOf-entering c.args.self.now.costs c.in_ok-members.members c.list_entering.new.list.items (Some c.in-Some.weight) c.in_ok-list_entering.ensures least)

pub returns-in-None-clause-next : goal.returns-in-None-clause-next
returns-in-None-clause-next g c vertices active =
    let list : List ActiveVertex = c.args.self.now.active.items in
    let a : ActiveVertex = c.index.result.now in
    let are : c.list_candidates.new.list.items ≡ map candidate_of list = c.in_ok-list_candidates.ensures ∙ ap (map candidate_of) c.deref.ensures.value in
    let within : c.choose-place.result < length list = omega (arith, c.choose-place.ensures.place, ap length are, length-map list candidate_of, ap length c.deref-2.ensures.value) in
    let members : HasMembers a.leading c.in_ok-members.members = subst (HasMembers a.leading) (sym c.in_ok-members.ensures) c.set.ensures in
    let least : IsLeastOf (IsLeftOfOne c.list_entering.new.list.items) None =
    subst (λ (xs : List EnteringArc). IsLeastOf (IsLeftOfOne xs) None) c.deref-3.ensures.value c.in-None.ensures in
    IsNextStep-active c.args.g.now c.args.self.now.costs vertices list c.choose-place.result a c.in_ok-members.members
    (Close c.in_ok-members.members) c.requires.edges active within c.index.ensures members
    (refl, IsLeastOf-entering c.args.self.now.costs c.in_ok-members.members c.list_entering.new.list.items None c.in_ok-list_entering.ensures least)

use Rattle.std.proofs.Common.{◌≡◌, ◌<◌, ◌≤◌, true, Contains, get_or, length, ⊎_elim, subst, sym, ap, ◌∙◌, arith}
use Rattle.std.proofs.lemmas.Bool.{cases_lt}
use Rattle.std.proofs.lemmas.List.{get_or_default}
use Rattle.std.proofs.lemmas.List.Edits.{get_or-remove_below}
use Rattle.dual_ascent.specs.declared.active.ActiveVertex.{ActiveVertex}
use Rattle.dual_ascent.proofs.lemmas.ActiveLemmas.{LeavesOut-none, LeavesOut-more}
use Rattle.dual_ascent.proofs.active.leave_reached_out.Goals as goal

pub loop-place-init : goal.loop-place-init
loop-place-init c = (LeavesOut-none (λ a. Contains a.leading.order c.args.root) c.args.active.now.items, λ k d lt. absurd (omega arith))

pub loop-place-preserved-then-has : goal.loop-place-preserved-then-has
loop-place-preserved-then-has c =
    let items = c.loop-place.active.items in
    let place = c.loop-place.place in
    let a : ActiveVertex = c.index.result.now in
    let within : place < length items = omega arith in
    let found : Contains a.leading.order c.args.root = c.has.ensures.0 c.if-has.true in
    rw c.remove.ensures.items (
      LeavesOut-more (λ b. Contains b.leading.order c.args.root) c.args.active.now.items items place a within c.loop-place.invariant.0 (subst (λ (b : ActiveVertex). Contains b.leading.order c.args.root) c.index.ensures found),
      λ k d lt. subst (λ (b : ActiveVertex). Contains b.leading.order c.args.root → ⊥) (sym (get_or-remove_below items place d k lt within)) (c.loop-place.invariant.1 k d lt),
    )

pub loop-place-preserved : goal.loop-place-preserved
loop-place-preserved c =
    let items = c.loop-place.active.items in
    let place = c.loop-place.place in
    let a : ActiveVertex = c.index.result.now in
    let within : place < length items = omega arith in (
      c.loop-place.invariant.0,
      λ k d lt. ⊎_elim
          (λ (before : k < place). c.loop-place.invariant.1 k d before)
          (λ (from : place ≤ k). λ found.
          let same : place ≡ k = omega arith in
          let here : get_or items k d ≡ a = ap (λ j. get_or items j d) (sym same) ∙ get_or_default items place d a within ∙ sym c.index.ensures in
          let yes : c.has.result ≡ true = c.has.ensures.1 (subst (λ (b : ActiveVertex). Contains b.leading.order c.args.root) here found) in cc)
          (cases_lt k place),
    )

pub returns : goal.returns
returns c = record {
  left_out = c.loop-place.invariant.0;
  apart = λ k d lt. c.loop-place.invariant.1 k d (omega arith);
}

use Rattle.std.proofs.Common.{arith, get_or, sym, ◌∙◌, inl, inr}
use Rattle.std.proofs.lemmas.Bool.Decides.{not_from_Decides}
use Rattle.full_tree.specs.Geometry.{point_at}
use Rattle.full_tree.specs.Form.{across_of}
use Rattle.full_tree.proofs.lemmas.Signs.{turns_more, turns_not}
use Rattle.full_tree.proofs.lemmas.FormTests.{no, in_turn_iff_turns, turn_of, orderings_decide, turns_end, turn_differs, equal_from_test, unequal_from_test}
use Rattle.full_tree.proofs.form.lie_in_turn.Goals as goal
use Rattle.full_tree.proofs.form.lie_in_turn.Goals.{then-is_eq-via-then-is_eq, then-is_eq-via-else-is_eq+then-eq}

pub loop-drop-init : goal.loop-drop-init
loop-drop-init c =
    grind (arith, in_turn_iff_turns c.args.points.now c.args.root c.args.toward c.args.drops.now c.args.tip)

pub returns-then-is_eq : goal.returns-then-is_eq
returns-then-is_eq c =
    let r = point_at c.args.points.now c.args.root in
    let side = across_of c.args.points.now c.args.root c.args.toward in
    let drop = get_or c.args.drops.now c.loop-drop.drop-index 0 in
    let is = turn_of r (point_at c.args.points.now drop) c.args.toward c.across_order-turn.result (rw (c.point_at.ensures, c.point_at-start.ensures) at (c.across_order-turn.ensures r)) in
    no (turns_not side c.loop-drop.before c.across_order-turn.result c.args.drops.now c.args.tip c.loop-drop.drop-index c.loop-drop-test.true c.loop-drop.invariant.decides is
    (elim c.then-is_eq.branch [
      | then-is_eq-via-then-is_eq w ↦ inl (equal_from_test c.across_order-turn.result (sym c.is_eq.ensures ∙ w.if-is_eq.true))
      | then-is_eq-via-else-is_eq+then-eq w ↦ inr ((orderings_decide c.across_order-turn.result c.loop-drop.before).0 (sym w.eq.ensures ∙ w.if-eq.true))
    ]))

pub loop-drop-preserved : goal.loop-drop-preserved
loop-drop-preserved c =
    let r = point_at c.args.points.now c.args.root in
    let side = across_of c.args.points.now c.args.root c.args.toward in
    let drop = get_or c.args.drops.now c.loop-drop.drop-index 0 in
    let is = turn_of r (point_at c.args.points.now drop) c.args.toward c.across_order-turn.result (rw (c.point_at.ensures, c.point_at-start.ensures) at (c.across_order-turn.ensures r)) in
    record {
      decides = turns_more side c.loop-drop.before c.across_order-turn.result c.args.drops.now c.args.tip c.loop-drop.drop-index c.loop-drop-test.true c.loop-drop.invariant.decides is
          (unequal_from_test c.across_order-turn.result (sym c.is_eq.ensures ∙ c.if-is_eq.false))
          (not_from_Decides c.eq.result (rw c.eq.ensures (orderings_decide c.across_order-turn.result c.loop-drop.before)) c.if-eq.false);
      start = c.point_at-start.ensures;
    }

pub returns-then-is_eq-2 : goal.returns-then-is_eq-2
returns-then-is_eq-2 c =
    let r = point_at c.args.points.now c.args.root in
    let side = across_of c.args.points.now c.args.root c.args.toward in
    let is = turn_of r (point_at c.args.points.now c.args.tip) c.args.toward c.across_order-turn-2.result (rw (c.point_at-2.ensures, c.point_at-start.ensures) at (c.across_order-turn-2.ensures r)) in
    let tied = equal_from_test c.across_order-turn-2.result (sym c.is_eq-2.ensures ∙ c.if-is_eq-2.true) in
    turns_end side c.loop-drop.before c.args.drops.now c.args.tip c.loop-drop.drop-index c.is_eq-2.result (omega arith) c.loop-drop.invariant.decides
    (λ h. inl (sym is ∙ tied), λ ends. c.if-is_eq-2.true)

pub returns-else-is_eq-2 : goal.returns-else-is_eq-2
returns-else-is_eq-2 c =
    let r = point_at c.args.points.now c.args.root in
    let side = across_of c.args.points.now c.args.root c.args.toward in
    let is = turn_of r (point_at c.args.points.now c.args.tip) c.args.toward c.across_order-turn-2.result (rw (c.point_at-2.ensures, c.point_at-start.ensures) at (c.across_order-turn-2.ensures r)) in
    let off = unequal_from_test c.across_order-turn-2.result (sym c.is_eq-2.ensures ∙ c.if-is_eq-2.false) in
    turns_end side c.loop-drop.before c.args.drops.now c.args.tip c.loop-drop.drop-index c.ne.result (omega arith) c.loop-drop.invariant.decides
    (turn_differs side c.args.tip c.loop-drop.before c.across_order-turn-2.result c.ne.result is off c.ne.ensures)

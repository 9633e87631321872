use Rattle.std.proofs.Common.{sym, ◌∙◌}
use Rattle.std.proofs.lemmas.Bool.{true≢false}
use Rattle.full_tree.specs.Geometry.{point_at}
use Rattle.full_tree.proofs.lemmas.FormTests.{turn_of, unequal_from_test, untied_from_test, tied_from_test, on_short_leg, off_short_leg}
use Rattle.full_tree.proofs.form.is_on_short_leg.Goals as goal

pub returns-then-is_ne : goal.returns-then-is_ne
returns-then-is_ne c =
    let r = point_at c.args.points.now c.args.root in
    let ahead = rw (c.point_at-side.ensures, c.point_at-tip.ensures) at (c.along_order.ensures r) in
    let turn = turn_of r (point_at c.args.points.now c.args.side) c.args.toward c.across_order-turn.result (rw (c.point_at-side.ensures, c.point_at.ensures) at (c.across_order-turn.ensures r)) in
    let reach = rw (c.point_at-tip.ensures, c.point_at-side.ensures) at (c.across_order.ensures r) in
    on_short_leg c.args.points.now c.args.root c.args.toward c.args.tip c.args.side c.eq.result c.along_order.result c.across_order-turn.result c.across_order.result
    ahead (unequal_from_test c.along_order.result (sym c.is_eq.ensures ∙ c.if-is_eq.false))
    turn (untied_from_test c.across_order-turn.result (sym c.is_ne.ensures ∙ c.if-is_ne.true))
    reach c.eq.ensures

pub returns-else-is_ne : goal.returns-else-is_ne
returns-else-is_ne c =
    let r = point_at c.args.points.now c.args.root in
    let turn = turn_of r (point_at c.args.points.now c.args.side) c.args.toward c.across_order-turn.result (rw (c.point_at-side.ensures, c.point_at.ensures) at (c.across_order-turn.ensures r)) in
    let tied = tied_from_test c.across_order-turn.result (sym c.is_ne.ensures ∙ c.if-is_ne.false) in (
      λ h. absurd (true≢false (sym h ∙ c.if-is_ne.false)),
      λ leg. absurd (off_short_leg c.args.points.now c.args.root c.args.toward c.args.tip c.args.side c.across_order-turn.result turn tied leg),
    )

use Rattle.std.proofs.Common.{[], ◌∷◌, get_or, arith, sym, ◌∙◌}
use Rattle.full_tree.specs.Geometry.{point_at, along}
use Rattle.full_tree.specs.Form.{along_of}
use Rattle.full_tree.proofs.lemmas.Signs.{rises_not}
use Rattle.full_tree.proofs.lemmas.FormTests.{no, not_lower, lower_decides, rises_end}
use Rattle.full_tree.proofs.form.goes_forward.Goals as goal

pub returns-then-is_ge : goal.returns-then-is_ge
returns-then-is_ge c =
    let r = point_at c.args.points.now c.args.root in
    let ahead = along_of c.args.points.now c.args.root c.args.toward in
    let drop = get_or c.args.drops.now c.loop-drop.drop-index 0 in
    let is = rw c.point_at-point.ensures at (c.along_order.ensures r) in
    no (rises_not ahead (along r c.args.toward c.loop-drop.before) c.args.drops.now (c.args.tip ∷ []) c.loop-drop.drop-index c.loop-drop-test.true c.loop-drop.invariant (not_lower (along r c.args.toward c.loop-drop.before) (ahead drop) c.along_order.result is (sym c.is_ge.ensures ∙ c.if-is_ge.true)))

pub returns : goal.returns
returns c =
    let r = point_at c.args.points.now c.args.root in
    let ahead = along_of c.args.points.now c.args.root c.args.toward in
    let is = rw c.point_at.ensures at (c.along_order-2.ensures r) in
    let z = along r c.args.toward c.loop-drop.before in
    rises_end ahead z c.args.drops.now c.args.tip c.loop-drop.drop-index c.is_lt.result (omega arith) c.loop-drop.invariant (lower_decides z (ahead c.args.tip) c.is_lt.result c.along_order-2.result is c.is_lt.ensures)

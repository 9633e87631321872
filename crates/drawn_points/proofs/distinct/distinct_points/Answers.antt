use Rattle.std.proofs.Common.{Err, pos, ap, ◌∙◌, arith}
use Rattle.drawn_points.proofs.lemmas.Loops.{added_next, never_full}
use Rattle.drawn_points.proofs.distinct.distinct_points.Goals as goal

pub unreachable-requires : goal.unreachable-requires
unreachable-requires c =
    never_full c.as_slice-drawn.result.now c.args.drawn.now c.loop-point.points c.loop-point.point-index
    c.as_slice-drawn.ensures.points c.as_slice-drawn.ensures.drawn.few c.loop-point.invariant c.loop-point-test.true
    (c.add.ensures.full (c.in-Err-Full.is ∙ ap Err c.in-Err-Full.field-0-is)).0

pub loop-point-preserved : goal.loop-point-preserved
loop-point-preserved c =
    grind (arith, added_next c.as_slice-drawn.result.now c.args.drawn.now c.loop-point.points c.add.new.self c.loop-point.point-index (record { x = pos 0; y = pos 0 }) c.in-Ok.field-0 c.add.result c.as_slice-drawn.ensures.points c.loop-point.invariant c.loop-point-test.true c.in-Ok.is (record { new = c.add.ensures.new; new_point = c.add.ensures.new_point; repeat = c.add.ensures.repeat; repeat_kept = c.add.ensures.repeat_kept }))

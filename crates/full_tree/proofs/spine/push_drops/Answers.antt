use Rattle.std.proofs.Common.{arith}
use Rattle.full_tree.proofs.lemmas.Spine.{first_stations-room, first_stations-more}
use Rattle.full_tree.proofs.spine.push_drops.Goals as goal

pub push-requires-in-loop-drop : goal.push-requires-in-loop-drop
push-requires-in-loop-drop c = first_stations-room c.args.points.now c.args.root c.args.toward c.args.stations.now _
    c.args.drops.now c.loop-drop.drop-index (omega arith) c.loop-drop.invariant.0 c.requires.room

pub loop-drop-preserved : goal.loop-drop-preserved
loop-drop-preserved c = first_stations-more c.args.points.now c.args.root c.args.toward c.args.stations.now _ _ _ _ _
    c.args.drops.now c.loop-drop.drop-index _ _ (omega arith) c.loop-drop.invariant.0 c.loop-drop.invariant.1
    c.foot-foot.ensures c.gap.ensures.value c.point_at.ensures c.gap-in-loop-drop.ensures.value c.push-in-loop-drop.ensures

use Rattle.std.proofs.Common.{sym}
use Rattle.full_tree.proofs.lemmas.Joins.{side_foot-meet}
use Rattle.full_tree.proofs.pieces.side_foot.Goals as goal

pub returns : goal.returns
returns c =
    rw (c.meeting_point.ensures, c.point_at.ensures, c.point_at-2.ensures) (sym (side_foot-meet c.args.points.now c.args.root c.args.toward c.args.tip c.args.place))

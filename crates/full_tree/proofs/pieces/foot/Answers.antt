use Rattle.std.proofs.Common.{sym}
use Rattle.full_tree.proofs.lemmas.Joins.{foot-meet}
use Rattle.full_tree.proofs.pieces.foot.Goals as goal

pub returns : goal.returns
returns c =
    rw (c.meeting_point.ensures, c.point_at.ensures, c.point_at-2.ensures) (sym (foot-meet c.args.points.now c.args.root c.args.toward c.args.place))

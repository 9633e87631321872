use Rattle.std.proofs.Common.{◌<◌, length}
use Rattle.full_tree.proofs.lemmas.FormTests.{All-drops, IfSome-side}
use Rattle.full_tree.proofs.lemmas.Joins.{long_places}
use Rattle.full_tree.proofs.pieces.nth_piece.Goals as goal

pub long_piece-requires-clause-drops : goal.long_piece-requires-clause-drops
long_piece-requires-clause-drops c =
    rw c.as_slice.ensures (All-drops (λ k. k < length c.args.points.now) c.in-Long.root c.in-Long.toward c.in-Long.drops c.in-Long.side c.in-Long.tip (rw c.in-Long.is at c.requires.terminals))

pub long_piece-requires-clause-side : goal.long_piece-requires-clause-side
long_piece-requires-clause-side c =
    IfSome-side (λ k. k < length c.args.points.now) c.in-Long.root c.in-Long.toward c.in-Long.drops c.in-Long.side c.in-Long.tip (rw c.in-Long.is at c.requires.terminals)

pub long_piece-requires-clause-tip : goal.long_piece-requires-clause-tip
long_piece-requires-clause-tip c =
    (long_places (λ k. k < length c.args.points.now) c.in-Long.root c.in-Long.toward c.in-Long.drops c.in-Long.side c.in-Long.tip (rw c.in-Long.is at c.requires.terminals)).3

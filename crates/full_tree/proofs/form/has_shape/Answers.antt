use Rattle.std.proofs.Common.{◌<◌, length}
use Rattle.full_tree.proofs.lemmas.FormTests.{All-drops, IfSome-side}
use Rattle.full_tree.proofs.form.has_shape.Goals as goal

pub has_long_shape-requires-clause-drops : goal.has_long_shape-requires-clause-drops
has_long_shape-requires-clause-drops c =
    rw c.as_slice.ensures (All-drops (λ k. k < length c.args.points.now) c.in-Long.root c.in-Long.toward c.in-Long.drops c.in-Long.side c.in-Long.tip (rw c.in-Long.is at c.requires))

pub has_long_shape-requires-clause-side : goal.has_long_shape-requires-clause-side
has_long_shape-requires-clause-side c =
    IfSome-side (λ k. k < length c.args.points.now) c.in-Long.root c.in-Long.toward c.in-Long.drops c.in-Long.side c.in-Long.tip (rw c.in-Long.is at c.requires)

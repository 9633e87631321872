use Rattle.std.proofs.Common.{arith}
use Rattle.full_tree.specs.Geometry.{point_at}
use Rattle.full_tree.proofs.lemmas.FormTests.{turn_of}
use Rattle.full_tree.proofs.lemmas.Nth.{length-short_leg}
use Rattle.full_tree.proofs.pieces.short_leg_count.Goals as goal

pub returns-clause-count : goal.returns-clause-count
returns-clause-count c =
    grind (arith, turn_of, c.across_order.ensures (point_at c.args.points.now c.args.root), length-short_leg)

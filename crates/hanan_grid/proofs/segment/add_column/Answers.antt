use Rattle.std.proofs.Common.{arith}
use Rattle.hanan_grid.specs.RunsLaws.{IsVertical-from_edge, column_part_more}
use Rattle.hanan_grid.proofs.segment.add_column.Goals as goal

pub loop-row-preserved : goal.loop-row-preserved
loop-row-preserved c =
    let is = IsVertical-from_edge c.args.grid.now c.vertical_edge.result c.loop-row.row c.args.column (omega arith) c.requires.column c.vertical_edge.ensures.edge in
    rw c.add.ensures (column_part_more c.args.grid.now c.args.column _ c.loop-row.row c.vertical_edge.result _ c.loop-row.set (omega arith) (omega arith) is c.loop-row.invariant)

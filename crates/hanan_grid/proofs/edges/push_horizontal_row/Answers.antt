use Rattle.std.proofs.Common.{rules, arith}
use Rattle.hanan_grid.specs.Grid.{horizontal}
use Rattle.hanan_grid.proofs.lemmas.Rows.{row_more}
use Rattle.hanan_grid.proofs.edges.push_horizontal_row.Goals as goal

pub loop-column-preserved : goal.loop-column-preserved
loop-column-preserved c =
    (row_more (horizontal c.args.xs.now c.args.row) c.args.edges.now.items c.loop-column.edges.items _ c.loop-column.column _ c.loop-column.invariant.0 (grind arith) c.push_reserved.ensures.items, omega arith, search rules)

use Rattle.std.proofs.Common.{rules, arith, ◌-◌, length}
use Rattle.hanan_grid.specs.Grid.{horizontal}
use Rattle.hanan_grid.proofs.lemmas.Rows.{table_more}
use Rattle.hanan_grid.proofs.edges.push_horizontals.Goals as goal

pub loop-row-preserved : goal.loop-row-preserved
loop-row-preserved c =
    (table_more (horizontal c.args.xs.now) c.args.edges.now.items c.loop-row.edges.items _ c.loop-row.row (length c.args.xs.now - 1) c.loop-row.invariant.0 c.push_horizontal_row.ensures.edges, omega arith, search rules)

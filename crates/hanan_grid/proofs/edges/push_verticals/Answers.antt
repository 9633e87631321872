use Rattle.std.proofs.Common.{rules, arith, length}
use Rattle.hanan_grid.specs.Grid.{vertical}
use Rattle.hanan_grid.proofs.lemmas.Rows.{table_more}
use Rattle.hanan_grid.proofs.edges.push_verticals.Goals as goal

pub loop-row-preserved : goal.loop-row-preserved
loop-row-preserved c =
    (table_more (vertical (length c.args.xs.now) c.args.ys.now) c.args.edges.now.items c.loop-row.edges.items _ c.loop-row.row (length c.args.xs.now) c.loop-row.invariant.0 c.push_vertical_row.ensures.edges, omega arith, search rules)

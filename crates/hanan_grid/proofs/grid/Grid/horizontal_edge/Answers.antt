use Rattle.std.proofs.Common.{arith}
use Rattle.hanan_grid.specs.Grid.{xs_of, ys_of}
use Rattle.hanan_grid.specs.GridLaws.{slice_get-horizontal, horizontal_number-below}
use Rattle.hanan_grid.proofs.grid.Grid.horizontal_edge.Goals as goal

pub returns-clause-edge : goal.returns-clause-edge
returns-clause-edge c =
    grind (arith, slice_get-horizontal (xs_of (c.args.self.now)) (ys_of (c.args.self.now)) c.args.row c.args.column c.requires.row c.requires.column)

pub returns-clause-below : goal.returns-clause-below
returns-clause-below c =
    grind (arith, horizontal_number-below (xs_of (c.args.self.now)) (ys_of (c.args.self.now)) c.args.row c.args.column c.requires.row c.requires.column)

use Rattle.std.proofs.Common.{min}
use Rattle.net_graph.specs.Adds.{Adds}
use Rattle.hanan_grid.specs.RunsLaws.{IsInRowBelow}
use Rattle.hanan_grid.proofs.segment.add_row.Given as goal

-- the row's edges from the lower of the two columns to this one are added
abbrev pub invariant-loop-column : goal.invariant-loop-column
invariant-loop-column l = Adds (IsInRowBelow l.grid l.row (min l.from l.to) l.column) l.fn.set l.set

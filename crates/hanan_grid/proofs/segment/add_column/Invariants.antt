use Rattle.std.proofs.Common.{min}
use Rattle.net_graph.specs.Adds.{Adds}
use Rattle.hanan_grid.specs.RunsLaws.{IsInColumnPart}
use Rattle.hanan_grid.proofs.segment.add_column.Given as goal

-- the column's edges from the lower of the two rows to this one are added
abbrev pub invariant-loop-row : goal.invariant-loop-row
invariant-loop-row l = Adds (IsInColumnPart l.grid l.column (min l.from l.to) l.row) l.fn.set l.set

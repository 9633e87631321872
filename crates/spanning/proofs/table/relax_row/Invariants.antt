use Rattle.spanning.specs.Relaxing.{RelaxesRow}
use Rattle.spanning.proofs.table.relax_row.Given as goal

abbrev pub invariant-loop-column : goal.invariant-loop-column
invariant-loop-column l = RelaxesRow l.n l.middle l.row l.column l.initial.lengths l.lengths

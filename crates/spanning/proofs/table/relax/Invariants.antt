use Rattle.spanning.specs.Relaxing.{RelaxesRows}
use Rattle.spanning.proofs.table.relax.Given as goal

abbrev pub invariant-loop-row : goal.invariant-loop-row
invariant-loop-row l = RelaxesRows l.n l.middle l.row l.initial.lengths l.lengths

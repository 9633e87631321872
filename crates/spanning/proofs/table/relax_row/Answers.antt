use Rattle.std.proofs.Common.{◌≡◌, arith}
use Rattle.spanning.specs.Bottleneck.{entry}
use Rattle.spanning.specs.Relaxing.{relaxed}
use Rattle.spanning.proofs.lemmas.Rows.{RelaxesRow-more, from_middle}
use Rattle.spanning.proofs.table.relax_row.Goals as goal

pub loop-column-preserved : goal.loop-column-preserved
loop-column-preserved c =
    let a = c.args in
    let new = c.loop-column.lengths in
    let column = c.loop-column.column in
    let here : entry new a.n a.row column ≡ entry a.lengths.now a.n a.row column = c.loop-column.invariant.after column (omega arith) (omega arith) in
    let from : entry new a.n a.middle column ≡ entry a.lengths.now a.n a.middle column =
    from_middle a.n a.middle a.row column a.lengths.now new c.requires.middle (omega arith) c.loop-column.invariant in
    let is : c.min.result ≡ relaxed (entry a.lengths.now a.n) a.middle a.row column = omega (arith, c.min.ensures, c.max-through.ensures, here, from) in
    RelaxesRow-more a.n a.middle a.row column c.min.result a.lengths.now new c.requires.size c.requires.middle c.requires.row (omega arith) c.loop-column.invariant is

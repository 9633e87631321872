use Rattle.std.proofs.lemmas.Option.{same_Some}
use Rattle.hanan_grid.specs.GridLaws.{slice_get-horizontal, length-edges_of_lines, slice_get-vertical}
use Rattle.std.proofs.Common.{arith}
use Rattle.cert_check.proofs.border.layout_of.Goals as goal

pub returns : goal.returns
returns c = grind (arith, length-edges_of_lines, same_Some, slice_get-horizontal, slice_get-vertical)

use Rattle.std.proofs.Common.{arith}
use Rattle.std.proofs.lemmas.Option.{slice_get_within}
use Rattle.graph_reduce.proofs.tidy.has_edge.Goals as goal

pub returns-clause-none : goal.returns-clause-none
returns-clause-none c = grind (arith, slice_get_within)

-- A number past 32 bits is no place.
use Rattle.std.proofs.Common.{arith}
use Rattle.std.proofs.lemmas.Fmt.{decimal_injective}
use Rattle.fst_file.proofs.tree_line.place_in.Goals as goal

pub returns-then-place-from-clause-none : goal.returns-then-place-from-clause-none
returns-then-place-from-clause-none c = grind (arith, decimal_injective)

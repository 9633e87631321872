use Rattle.std.proofs.Common.{arith}
use Rattle.std.proofs.lemmas.List.{take_rest}
use Rattle.rst_outside.proofs.Copies.{copied_from}
use Rattle.rst_outside.proofs.memory.sure.SureSourceSource.read.Goals as goal

-- The next n bytes were copied to the front, and what follows them is left.
pub returns-clause-came : goal.returns-clause-came
returns-clause-came c =
    grind (arith, take_rest, copied_from, c.deref.ensures.value, c.copy_front-n.ensures.copied)

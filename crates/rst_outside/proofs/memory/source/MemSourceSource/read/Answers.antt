use Rattle.std.proofs.Common.{length-take, arith}
use Rattle.std.proofs.lemmas.List.{take_rest, take-take}
use Rattle.rst_outside.proofs.Copies.{copied_from}
use Rattle.rst_outside.proofs.memory.source.MemSourceSource.read.Goals as goal

-- The next n bytes were copied to the front, and what follows them is left.
pub returns-clause-came : goal.returns-clause-came
returns-clause-came c =
    grind (arith, take_rest, length-take, copied_from, take-take, c.deref.ensures.value, c.copy_front-n.ensures.copied, c.copy_front-n.ensures.fits)

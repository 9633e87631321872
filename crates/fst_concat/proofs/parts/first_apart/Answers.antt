-- The first terminal of another label is the first that the set's trees leave apart.
use Rattle.std.proofs.Common.{arith}
use Rattle.fst_concat.proofs.lemmas.Parts.{apart_answer}
use Rattle.fst_concat.proofs.parts.first_apart.Goals as goal

pub returns : goal.returns
returns c =
    grind (arith, apart_answer, c.first_other.ensures, c.requires.size, c.join_parts.ensures)

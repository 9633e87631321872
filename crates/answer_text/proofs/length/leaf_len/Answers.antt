use Rattle.std.proofs.Common.{length, map, refl, arith}
use Rattle.std.specs.Prelude.{codes}
use Rattle.answer_text.specs.LineKinds as line
use Rattle.answer_text.proofs.lemmas.Lengths.{length-number}
use Rattle.answer_text.proofs.length.leaf_len.Goals as goal

pub returns-clause-length : goal.returns-clause-length
returns-clause-length c =
    grind (arith, length-number (codes "leaf ") (length (c.args.packing.now)) (line.Leaf (length (c.args.packing.now))) (map line.Cut (c.args.packing.now)) refl)

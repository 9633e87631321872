use Rattle.std.proofs.Common.{arith}
use Rattle.answer_text.proofs.lemmas.Lengths.{length-split_edge}
use Rattle.answer_text.proofs.length.split_len.Goals as goal

pub returns-in-Edge-clause-length : goal.returns-in-Edge-clause-length
returns-in-Edge-clause-length c = rw c.in-Edge.is (omega (arith, length-split_edge c.in-Edge.edge))

use Rattle.std.proofs.Common.{arith}
use Rattle.answer_text.proofs.lemmas.Lengths.{length-edge, length-edge_number}
use Rattle.answer_text.proofs.length.edge_len.Goals as goal

pub returns-in-Ends-clause-length : goal.returns-in-Ends-clause-length
returns-in-Ends-clause-length c = rw c.in-Ends.is (omega (arith, length-edge c.in-Ends.name))

pub returns-in-Number-clause-length : goal.returns-in-Number-clause-length
returns-in-Number-clause-length c = grind (arith, length-edge_number c.in-Number.number)

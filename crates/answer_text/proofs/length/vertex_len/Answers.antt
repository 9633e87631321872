use Rattle.std.proofs.Common.{arith}
use Rattle.answer_text.proofs.lemmas.Lengths.{length-split_vertex, length-vertex_number}
use Rattle.answer_text.proofs.length.vertex_len.Goals as goal

pub returns-in-At-clause-length : goal.returns-in-At-clause-length
returns-in-At-clause-length c = rw c.in-At.is (omega (arith, length-split_vertex c.in-At.point))

pub returns-in-Number-clause-length : goal.returns-in-Number-clause-length
returns-in-Number-clause-length c = grind (arith, length-vertex_number c.in-Number.number)

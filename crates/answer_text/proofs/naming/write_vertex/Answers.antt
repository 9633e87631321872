use Rattle.answer_text.proofs.naming.write_vertex.Goals as goal

pub returns-in-At : goal.returns-in-At
returns-in-At g c = rw c.in-At.is c.write_point.ensures

pub returns-in-Number : goal.returns-in-Number
returns-in-Number g c = rw c.in-Number.is c.write_number.ensures

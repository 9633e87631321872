use Rattle.answer_text.proofs.naming.write_split.Goals as goal

pub returns-in-Vertex : goal.returns-in-Vertex
returns-in-Vertex g c = rw c.in-Vertex.is c.write_vertex.ensures

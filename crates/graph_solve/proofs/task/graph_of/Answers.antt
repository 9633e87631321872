-- What was found is the file's graph, or its first fault, of which there is one.
use Rattle.graph_solve.proofs.lemmas.OneFault.{answers_fault, answers_graph}
use Rattle.graph_solve.proofs.task.graph_of.Goals as goal

pub returns-clause-only : goal.returns-clause-only
returns-clause-only c = λ task.
    answers_graph c.args.file.now c.joined_graph.result c.joined_graph.ensures.graph c.joined_graph.ensures.fault task

pub returns-clause-only_fault : goal.returns-clause-only_fault
returns-clause-only_fault c = λ f first.
    answers_fault c.args.file.now c.joined_graph.result c.joined_graph.ensures.task c.joined_graph.ensures.fault f first

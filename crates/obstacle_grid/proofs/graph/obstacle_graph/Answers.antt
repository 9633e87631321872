-- What was found is the graph, or the first fault, of which there is one.
use Rattle.obstacle_grid.proofs.lemmas.OneFault.{answers_fault, answers_graph}
use Rattle.obstacle_grid.proofs.graph.obstacle_graph.Goals as goal

pub returns-clause-only : goal.returns-clause-only
returns-clause-only c = λ task.
    answers_graph c.args.o.now c.joined_graph.result c.joined_graph.ensures.graph c.joined_graph.ensures.fault task

pub returns-clause-only_fault : goal.returns-clause-only_fault
returns-clause-only_fault c = λ f first.
    answers_fault c.args.o.now c.joined_graph.result c.joined_graph.ensures.task c.joined_graph.ensures.fault f first

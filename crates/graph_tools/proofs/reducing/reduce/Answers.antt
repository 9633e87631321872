-- Each run is the one that is asked for.
use Rattle.graph_tools.proofs.reducing.reduce.Goals as goal

pub returns-then-solve : goal.returns-then-solve
returns-then-solve g c = λ shelf. rw c.if-solve.true (c.run_on_text.ensures shelf)

pub returns-else-solve : goal.returns-else-solve
returns-else-solve g c = λ shelf. rw c.if-solve.false (c.run_on_text-else-solve.ensures shelf)

-- Each run is the one that is asked for.
use Rattle.obstacle_tools.proofs.around.obstacles.Goals as goal

pub returns-then-stp : goal.returns-then-stp
returns-then-stp g c = λ shelf. rw c.if-stp.true (c.run_on_text.ensures shelf)

pub returns-else-stp : goal.returns-else-stp
returns-else-stp g c = λ shelf. rw c.if-stp.false (c.run_on_text-else-stp.ensures shelf)

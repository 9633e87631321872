-- A step of the search leads on.
use Rattle.graph_search.proofs.AnewLemmas.{step_ahead}
use Rattle.graph_search.proofs.chains.split_next.Goals as goal

pub returns-clause-ahead : goal.returns-clause-ahead
returns-clause-ahead g c = step_ahead _ _ c.in_ok-step.step c.in_ok-step.ensures.step

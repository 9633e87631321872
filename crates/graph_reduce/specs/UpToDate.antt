-- What is known beside a state is up to date.
use Rattle.graph_reduce.specs.declared.survey.Survey.{Survey}
use Rattle.graph_reduce.specs.declared.due.Due.{Due}
use Rattle.graph_reduce.specs.State.{State}
use Rattle.graph_reduce.specs.Survey.{IsSurvey}
use Rattle.graph_reduce.specs.Due.{AreDue}

-- the survey is one of the state, and each node at which a rule applies is due by it
pub record IsUpToDate (s : State) (survey : Survey) (due : Due) : Type 0 where
  pub seen : IsSurvey s survey.places.items survey.terminals
  pub all : AreDue s due

use Rattle.graph_reduce.specs.Survey.{AreListedTo}
use Rattle.graph_reduce.proofs.survey.listed_places.Given as goal

abbrev pub invariant-loop-place : goal.invariant-loop-place
invariant-loop-place l = AreListedTo l.work l.place l.places.items

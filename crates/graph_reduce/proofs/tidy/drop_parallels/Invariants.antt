use Rattle.std.proofs.Common.{◌≡◌, length}
use Rattle.graph_reduce.specs.Clear.{LeadsTo, IsClearTo}
use Rattle.graph_reduce.specs.Survey.{IsNumbered, IsSurvey}
use Rattle.graph_reduce.proofs.tidy.drop_parallels.Given as goal

abbrev pub invariant-loop-place : goal.invariant-loop-place
invariant-loop-place l = record {
  leads : LeadsTo l.initial.work l.work;
  places : length l.work.edges ≡ l.place-end;
  clear : IsClearTo l.work (length l.work.edges) l.place 0;
  numbered : IsNumbered l.work;
  survey : IsSurvey l.work l.survey.places.items l.survey.terminals;
}

use Rattle.graph_reduce.specs.State.{start_of}
use Rattle.graph_reduce.specs.Clear.{LeadsTo, IsTidy}
use Rattle.graph_reduce.specs.UpToDate.{IsUpToDate}
use Rattle.graph_reduce.proofs.lemmas.Sizes.{size_of}
use Rattle.graph_reduce.proofs.steps.reduced_state.Given as goal

abbrev pub invariant-loop-due : goal.invariant-loop-due
invariant-loop-due l = record {
  leads : LeadsTo (start_of l.g) l.work;
  tidy : IsTidy l.work;
  index : IsUpToDate l.work l.survey l.due;
}

abbrev pub decreases-loop-due : goal.decreases-loop-due
decreases-loop-due l = size_of l.work

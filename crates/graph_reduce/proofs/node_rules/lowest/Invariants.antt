use Rattle.std.specs.BTreeSet.{btree_set_len}
use Rattle.graph_reduce.specs.Survey.{IsSurvey}
use Rattle.graph_reduce.specs.Due.{HasAllAt}
use Rattle.graph_reduce.proofs.node_rules.lowest.Given as goal

abbrev pub invariant-loop-v : goal.invariant-loop-v
invariant-loop-v l = record {
  survey : IsSurvey l.work l.survey.places.items l.survey.terminals;
  due : HasAllAt l.work l.rule l.due;
}

abbrev pub decreases-loop-v : goal.decreases-loop-v
decreases-loop-v l = btree_set_len l.due

use Rattle.net_graph.proofs.lemmas.DecisionLemmas.{NoneInsideBelow}
use Rattle.net_graph.proofs.decision.ends_inside.Given as goal

-- no arc so far is of an inside edge
abbrev pub invariant-loop-arc : goal.invariant-loop-arc
invariant-loop-arc l = NoneInsideBelow l.d l.arc-items l.arc-index

use Rattle.net_graph.specs.Decision.{IsDecisionFor}
use Rattle.graph_calls.proofs.described.decided_by.Given as goal

-- what is read so far is a decision
abbrev pub invariant-loop-line : goal.invariant-loop-line
invariant-loop-line l = IsDecisionFor l.fn.g l.d

use Rattle.net_graph.proofs.lemmas.FeasibleLemmas.{NoEndHeldBelow}
use Rattle.net_graph.proofs.feasibility.holds_inside_end.Given as goal

-- the set holds no end of an inside edge so far
abbrev pub invariant-loop-n : goal.invariant-loop-n
invariant-loop-n l = NoEndHeldBelow l.g.edges l.d.edges l.members l.n

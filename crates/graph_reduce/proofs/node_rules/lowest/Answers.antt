use Rattle.std.proofs.Common.{arith}
use Rattle.graph_reduce.proofs.node_rules.lowest.Goals as goal

pub returns-then-applies-clause-lowest : goal.returns-then-applies-clause-lowest
returns-then-applies-clause-lowest c = record {
  node = c.if-applies.ensures.node;
  applies = c.if-applies.ensures.yes;
  none = λ u below is.
      let least = c.in-Some.ensures.least u (omega arith) (c.loop-v.invariant.due u is) in
      let bad : ⊥ = omega (arith, least, below) in bad;
}

pub returns-clause-lowest : goal.returns-clause-lowest
returns-clause-lowest c = λ v is. c.in_default.ensures v (omega arith) (c.loop-v.invariant.due v is)

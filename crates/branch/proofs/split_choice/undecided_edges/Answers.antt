-- One more edge, which is a candidate or isn't.
use Rattle.std.proofs.Common.{arith}
use Rattle.branch.proofs.lemmas.CandidateLemmas.{gathered_more, no_edge}
use Rattle.branch.proofs.split_choice.undecided_edges.Goals as goal
use Rattle.branch.proofs.split_choice.undecided_edges.Goals.{then-has+then-state-eq0+in_ok-push, else-has}

pub loop-e-init : goal.loop-e-init
loop-e-init c = grind arith

pub loop-e-preserved : goal.loop-e-preserved
loop-e-preserved c =
    elim c.if-has.branch [
      | then-has+then-state-eq0+in_ok-push w ↦
          rw (w.list-is, w.in_ok-push.ensures.items)
          (gathered_more _ _ _ _ _ c.loop-e.invariant
          (grind arith))
      | else-has w ↦ rw w.list-is (grind arith)
    ]

pub returns-clause-each : goal.returns-clause-each
returns-clause-each c = c.loop-e.invariant.each

pub returns-clause-every : goal.returns-clause-every
returns-clause-every c = no_edge _ _ _ _ _ c.loop-e.invariant (omega arith)

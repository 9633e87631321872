-- Each turn leads on.
use Rattle.std.proofs.Common.{arith}
use Rattle.graph_search.proofs.AnewLemmas.{ahead_trans}
use Rattle.graph_search.proofs.chains.split_in_turn.Goals as goal

pub returns-in_err-split_next-clause-ahead : goal.returns-in_err-split_next-clause-ahead
returns-in_err-split_next-clause-ahead _ c = ahead_trans _ _ _ c.loop-made.invariant.0 c.in_err-split_next.ensures.ahead

pub loop-made-preserved : goal.loop-made-preserved
loop-made-preserved _ c =
    let few = c.in_ok-split_next.ensures.few in
    let before = c.loop-made.invariant.1 in
    (ahead_trans _ _ _ c.loop-made.invariant.0 c.in_ok-split_next.ensures.ahead, omega arith)

pub returns-then-not-branch-clause-ahead : goal.returns-then-not-branch-clause-ahead
returns-then-not-branch-clause-ahead _ c = ahead_trans _ _ _ c.loop-made.invariant.0 c.in_ok-split_next.ensures.ahead

use Rattle.std.proofs.Common.{refl, below_more, arith}
use Rattle.full_tree.proofs.passing.keeps_bottlenecks.Goals as goal

pub returns-then-not-keeps_up_to : goal.returns-then-not-keeps_up_to
returns-then-not-keeps_up_to c = (
  λ said. absurd cc,
  λ keeps. c.if-not-keeps_up_to.ensures.1 (keeps c.loop-last.last (omega arith)),
)

pub loop-last-preserved : goal.loop-last-preserved
loop-last-preserved c = below_more _ _ c.loop-last.invariant (c.if-not-keeps_up_to.ensures.0 refl)

pub returns : goal.returns
returns c = (
  λ said b under. c.loop-last.invariant b (omega arith),
  λ keeps. refl,
)

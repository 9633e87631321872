use Rattle.std.proofs.Common.{refl, below_more, arith}
use Rattle.full_tree.proofs.passing.is_clear.Goals as goal

pub returns-then-not-is_clear_of : goal.returns-then-not-is_clear_of
returns-then-not-is_clear_of c = (
  λ said. absurd cc,
  λ keeps. c.if-not-is_clear_of.ensures.1 (keeps c.loop-k.k (omega (arith, c.len-k-end.ensures.value))),
)

pub loop-k-preserved : goal.loop-k-preserved
loop-k-preserved c = below_more _ _ c.loop-k.invariant (c.if-not-is_clear_of.ensures.0 refl)

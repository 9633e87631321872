use Rattle.fst_prune.specs.Firsts.{AreFirsts}
use Rattle.fst_prune.proofs.firsts.firsts.Given as goal

abbrev pub invariant-loop-place : goal.invariant-loop-place
invariant-loop-place l = AreFirsts l.trees l.place l.firsts

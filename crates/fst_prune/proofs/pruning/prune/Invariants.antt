use Rattle.fst_prune.proofs.lemmas.Flags.{AreKeptOf}
use Rattle.fst_prune.proofs.pruning.prune.Given as goal

abbrev pub invariant-loop-place : goal.invariant-loop-place
invariant-loop-place l = AreKeptOf l.trees l.place l.kept

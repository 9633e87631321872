use Rattle.fst_prune.specs.Within.{ArePairsWithin}
use Rattle.fst_prune.proofs.within.pairs_within.Given as goal

abbrev pub invariant-loop-upper : goal.invariant-loop-upper
invariant-loop-upper l = ArePairsWithin l.trees l.places l.upper 0 l.pairs

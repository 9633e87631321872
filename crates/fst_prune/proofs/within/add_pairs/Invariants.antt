use Rattle.fst_prune.specs.Within.{ArePairsWithin}
use Rattle.fst_prune.proofs.within.add_pairs.Given as goal

abbrev pub invariant-loop-lower : goal.invariant-loop-lower
invariant-loop-lower l = ArePairsWithin l.trees l.places l.upper l.lower l.pairs

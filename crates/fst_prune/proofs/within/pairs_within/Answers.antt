use Rattle.std.proofs.Common.{subst, sym, arith}
use Rattle.fst_prune.specs.Within.{ArePairsWithin}
use Rattle.fst_prune.proofs.lemmas.Pairs.{pairs_next}
use Rattle.fst_prune.proofs.within.pairs_within.Goals as goal

pub loop-upper-init : goal.loop-upper-init
loop-upper-init c = subst (λ pairs. ArePairsWithin c.args.trees.now c.args.places.now 0 0 pairs) (sym c.empty-pairs.ensures)
    (grind arith)

pub loop-upper-preserved : goal.loop-upper-preserved
loop-upper-preserved c =
    pairs_next c.args.trees.now c.args.places.now c.loop-upper.upper c.add_pairs.new.pairs c.loop-upper-test.true c.requires.few c.add_pairs.ensures

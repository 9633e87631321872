use Rattle.fst_gen.proofs.lemmas.Steps.{IsRootedBelow-step}
use Rattle.fst_gen.proofs.growth.grow_all.Goals as goal

pub loop-root-preserved : goal.loop-root-preserved
loop-root-preserved c = IsRootedBelow-step c.args.grid.now c.args.most c.loop-root.root c.args.trees.now c.loop-root.trees _
    c.loop-root.invariant c.in_ok-grow_from.ensures

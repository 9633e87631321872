use Rattle.fst_gen.proofs.lemmas.Steps.{EndsBelow-step}
use Rattle.fst_gen.proofs.growth.end_all.Goals as goal

pub loop-tip-preserved : goal.loop-tip-preserved
loop-tip-preserved c = EndsBelow-step c.args.grid.now c.args.most c.args.prefix.now.root c.args.prefix.now.toward c.args.prefix.now.drops
    c.loop-tip.tip c.args.trees.now c.loop-tip.trees _ c.loop-tip.invariant c.in_ok-end_at.ensures

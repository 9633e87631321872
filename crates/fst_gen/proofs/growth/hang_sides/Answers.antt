use Rattle.fst_gen.proofs.lemmas.Steps.{HangsBelow-step}
use Rattle.fst_gen.proofs.growth.hang_sides.Goals as goal

pub loop-side-preserved : goal.loop-side-preserved
loop-side-preserved c = HangsBelow-step c.args.grid.now c.args.most c.args.prefix.now.root c.args.prefix.now.toward c.args.prefix.now.drops
    c.args.tip c.loop-side.side c.args.trees.now c.loop-side.trees _ c.loop-side.invariant c.in_ok-hang_side.ensures

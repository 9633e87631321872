use Rattle.fst_gen.proofs.lemmas.Steps.{IsRootedAt-all}
use Rattle.fst_gen.proofs.growth.grow_from.Goals as goal

pub returns : goal.returns
returns c = IsRootedAt-all c.args.grid.now c.args.most c.args.root c.args.trees.now _ _ _ _ c.grow_towards-4.result
    c.in_ok-grow_towards.ensures c.in_ok-grow_towards-2.ensures c.in_ok-grow_towards-3.ensures c.grow_towards-4.ensures

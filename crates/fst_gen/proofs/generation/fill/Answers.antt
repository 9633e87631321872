use Rattle.fst_gen.specs.Kinds.{IsRootedBelow, IsAnyCross}
use Rattle.fst_gen.proofs.lemmas.Stores.{Generates-then}
use Rattle.fst_gen.proofs.lemmas.Steps.{any_code}
use Rattle.std.proofs.Common.{length}
use Rattle.fst_gen.proofs.generation.fill.Goals as goal

pub returns : goal.returns
returns c = Generates-then c.args.grid.now c.args.most (IsRootedBelow (length c.args.grid.now)) IsAnyCross (λ code. Unit {0})
    c.args.trees.now c.grow_all.new.trees _ c.cross_all.result c.in_ok-grow_all.ensures c.cross_all.ensures
    (λ code kind wanted. any_code c.args.grid.now c.args.most code wanted)

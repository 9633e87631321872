use Rattle.fst_gen.specs.Kinds.{Below, CrossesWest}
use Rattle.fst_gen.specs.Store.{Stores}
use Rattle.fst_gen.proofs.crosses.cross_all.Given as goal

abbrev pub invariant-loop-west : goal.invariant-loop-west
invariant-loop-west l = Stores l.grid l.most (Below CrossesWest l.west) l.fn.trees l.trees

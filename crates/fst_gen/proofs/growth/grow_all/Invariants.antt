use Rattle.fst_gen.specs.Kinds.{IsRootedBelow}
use Rattle.fst_gen.specs.Store.{Stores}
use Rattle.fst_gen.proofs.growth.grow_all.Given as goal

abbrev pub invariant-loop-root : goal.invariant-loop-root
invariant-loop-root l = Stores l.grid l.most (IsRootedBelow l.root) l.fn.trees l.trees

use Rattle.fst_gen.specs.Kinds.{Below, CrossesLevel}
use Rattle.fst_gen.specs.Store.{Stores}
use Rattle.fst_gen.proofs.crosses.cross_west.Given as goal

abbrev pub invariant-loop-east : goal.invariant-loop-east
invariant-loop-east l = Stores l.grid l.most (Below (CrossesLevel l.west) l.east) l.fn.trees l.trees

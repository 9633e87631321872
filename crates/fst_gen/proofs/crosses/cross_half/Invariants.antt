use Rattle.fst_gen.specs.Kinds.{Below, IsCrossOf}
use Rattle.fst_gen.specs.Store.{Stores}
use Rattle.fst_gen.proofs.crosses.cross_half.Given as goal

abbrev pub invariant-loop-north : goal.invariant-loop-north
invariant-loop-north l = Stores l.grid l.most (Below (IsCrossOf l.west l.east l.south) l.north) l.fn.trees l.trees

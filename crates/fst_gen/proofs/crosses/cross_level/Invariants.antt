use Rattle.fst_gen.specs.Kinds.{Below, CrossesHalf}
use Rattle.fst_gen.specs.Store.{Stores}
use Rattle.fst_gen.proofs.crosses.cross_level.Given as goal

abbrev pub invariant-loop-south : goal.invariant-loop-south
invariant-loop-south l = Stores l.grid l.most (Below (CrossesHalf l.west l.east) l.south) l.fn.trees l.trees

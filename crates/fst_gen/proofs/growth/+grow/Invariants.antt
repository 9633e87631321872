use Rattle.std.proofs.Common.{◌-◌, length}
use Rattle.fst_gen.specs.Kinds.{GrownBelow}
use Rattle.fst_gen.specs.Store.{Stores}
use Rattle.fst_gen.proofs.growth.+grow.Given as goal

abbrev pub decreases-grow : goal.decreases-grow
decreases-grow l = 8 - length l.prefix.now.drops

abbrev pub invariant-loop-drop : goal.invariant-loop-drop
invariant-loop-drop l = Stores l.grid l.most (GrownBelow l.prefix.root l.prefix.toward l.prefix.drops (length l.grid) l.drop) l.fn.trees l.trees

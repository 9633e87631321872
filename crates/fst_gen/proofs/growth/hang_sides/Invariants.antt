use Rattle.fst_gen.specs.Prefix.{HangsBelow}
use Rattle.fst_gen.specs.Store.{Stores}
use Rattle.fst_gen.proofs.growth.hang_sides.Given as goal

abbrev pub invariant-loop-side : goal.invariant-loop-side
invariant-loop-side l = Stores l.grid l.most (HangsBelow l.prefix.root l.prefix.toward l.prefix.drops l.tip l.side) l.fn.trees l.trees

use Rattle.fst_gen.specs.Prefix.{EndsBelow}
use Rattle.fst_gen.specs.Store.{Stores}
use Rattle.fst_gen.proofs.growth.end_all.Given as goal

abbrev pub invariant-loop-tip : goal.invariant-loop-tip
invariant-loop-tip l = Stores l.grid l.most (EndsBelow l.prefix.root l.prefix.toward l.prefix.drops l.tip) l.fn.trees l.trees

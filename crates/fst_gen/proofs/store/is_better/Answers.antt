use Rattle.std.proofs.Common.{sym}
use Rattle.fst_gen.proofs.lemmas.Kept.{told_by_order}
use Rattle.fst_gen.proofs.store.is_better.Goals as goal

pub returns-in-Some : goal.returns-in-Some
returns-in-Some c = told_by_order c.args.tree.now c.in-Some.old.now c.args.trees.now c.args.word _ _
    c.is_lt.ensures c.tree_order.ensures (sym c.in-Some.ensures.value)

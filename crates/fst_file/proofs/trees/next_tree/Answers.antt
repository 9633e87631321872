-- What is wrong with the tree that is kept is wrong with the one that the line spells.
use Rattle.std.specs.Prelude.{length, ◌≤◌}
use Rattle.std.proofs.Common.{inr, subst}
use Rattle.fst_file.proofs.lemmas.TreeSteps.{kept_fault}
use Rattle.fst_file.proofs.trees.next_tree.Goals as goal

pub returns-in-Some-tree_fault-clause-err : goal.returns-in-Some-tree_fault-clause-err
returns-in-Some-tree_fault-clause-err c =
    let read = c.in-Some.ensures.found in
    let ps = c.args.grid.now in
    let few = subst (λ ps. length ps ≤ 50) c.points.ensures c.len-count.ensures.few in
    inr (
      read.0,
      read.1,
      kept_fault ps c.args.trees.now c.args.line c.in-Some.tree read.0 c.in-Some-tree_fault.fault few read.2 read.3
          c.in-Some-tree_fault.ensures.fault,
    )

use Rattle.std.proofs.Common.{◌≡◌, take}
use Rattle.tree_inputs.specs.Lists.{trees_up_to}
use Rattle.tree_inputs.proofs.tree_lists.up_to.Given as goal

abbrev pub invariant-loop-tree : goal.invariant-loop-tree
invariant-loop-tree l = l.kept ≡ trees_up_to l.fn.k (take l.tree-index l.fn.trees)

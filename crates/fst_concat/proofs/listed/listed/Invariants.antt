use Rattle.std.proofs.Common.{◌≡◌, map, take}
use Rattle.fst_concat.specs.Listed.{tree_members}
use Rattle.fst_concat.proofs.listed.listed.Given as goal

abbrev pub invariant-loop-tree : goal.invariant-loop-tree
invariant-loop-tree l = l.listed.items ≡ map tree_members (take l.tree-index l.trees)

use Rattle.std.proofs.Common.{take}
use Rattle.text_out.specs.Gathers.{Gathers}
use Rattle.printed_texts.specs.Trees.{tree_list_text}
use Rattle.printed_texts.proofs.trees.write_trees.Given as goal

-- the lines of the trees passed
abbrev pub invariant-loop-tree : goal.invariant-loop-tree
invariant-loop-tree g l = Gathers (g.S.Sink.state l.initial.sink) l.initial.block (tree_list_text l.grid l.pieces (take l.tree-index l.trees)) (g.S.Sink.state l.sink) l.block

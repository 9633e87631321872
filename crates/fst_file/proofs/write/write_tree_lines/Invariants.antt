use Rattle.std.specs.Prelude.{flat_map}
use Rattle.std.proofs.Common.{take}
use Rattle.text_out.specs.Gathers.{Gathers}
use Rattle.fst_file.specs.Pieces.{tree_line}
use Rattle.fst_file.proofs.write.write_tree_lines.Given as goal

abbrev pub invariant-loop-tree : goal.invariant-loop-tree
invariant-loop-tree g l =
    Gathers (g.S.Sink.state l.initial.sink) l.initial.block (flat_map tree_line (take l.tree-index l.trees)) (g.S.Sink.state l.sink) l.block

use Rattle.std.proofs.Common.{take}
use Rattle.text_out.specs.Gathers.{Gathers}
use Rattle.reduced_text.specs.Text.{left_lines}
use Rattle.reduced_text.proofs.write.write_edge_lines.Given as goal

abbrev pub invariant-loop-n : goal.invariant-loop-n
invariant-loop-n g l = Gathers (g.S.Sink.state l.initial.sink) l.initial.block
    (left_lines (take l.n l.reduced.graph.edges) (take l.n l.reduced.originals)) (g.S.Sink.state l.sink) l.block

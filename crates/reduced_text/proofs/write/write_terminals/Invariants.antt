use Rattle.std.proofs.Common.{take, flat_map}
use Rattle.text_out.specs.Gathers.{Gathers}
use Rattle.reduced_text.specs.Text.{number_line}
use Rattle.reduced_text.proofs.write.write_terminals.Given as goal

abbrev pub invariant-loop-place : goal.invariant-loop-place
invariant-loop-place g l = Gathers (g.S.Sink.state l.initial.sink) l.initial.block
    (flat_map number_line (take l.place l.graph.terminals)) (g.S.Sink.state l.sink) l.block

use Rattle.std.specs.Prelude.{flat_map}
use Rattle.std.proofs.Common.{take}
use Rattle.text_out.specs.Gathers.{Gathers}
use Rattle.stp_text.specs.Lines.{terminal_line}
use Rattle.stp_format.proofs.write.write_terminal_lines.Given as goal

abbrev pub invariant-loop-node : goal.invariant-loop-node
invariant-loop-node g l =
    Gathers (g.S.Sink.state l.initial.sink) l.initial.block (flat_map terminal_line (take l.node-index l.terminals)) (g.S.Sink.state l.sink) l.block

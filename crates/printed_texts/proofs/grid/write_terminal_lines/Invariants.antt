use Rattle.std.proofs.Common.{take, flat_map}
use Rattle.text_out.specs.Gathers.{Gathers}
use Rattle.printed_texts.specs.Grid.{terminal_at}
use Rattle.printed_texts.proofs.grid.write_terminal_lines.Given as goal

-- the lines of the terminals passed
abbrev pub invariant-loop-place : goal.invariant-loop-place
invariant-loop-place g l = Gathers (g.S.Sink.state l.initial.sink) l.initial.block (flat_map terminal_at (take l.place l.graph.terminals)) (g.S.Sink.state l.sink) l.block

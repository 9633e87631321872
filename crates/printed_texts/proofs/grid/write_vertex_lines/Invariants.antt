use Rattle.std.proofs.Common.{flat_map}
use Rattle.std.specs.List.{range_with_len}
use Rattle.text_out.specs.Gathers.{Gathers}
use Rattle.printed_texts.specs.Grid.{vertex_line}
use Rattle.printed_texts.proofs.grid.write_vertex_lines.Given as goal

-- the lines of the vertices passed
abbrev pub invariant-loop-vertex : goal.invariant-loop-vertex
invariant-loop-vertex g l = Gathers (g.S.Sink.state l.initial.sink) l.initial.block (flat_map (vertex_line l.grid) (range_with_len 0 l.vertex)) (g.S.Sink.state l.sink) l.block

use Rattle.std.proofs.Common.{take, flat_map}
use Rattle.text_out.specs.Gathers.{Gathers}
use Rattle.printed_texts.specs.Grid.{edge_between}
use Rattle.printed_texts.proofs.grid.write_edges.Given as goal

-- the lines of the edges passed
abbrev pub invariant-loop-n : goal.invariant-loop-n
invariant-loop-n g l = Gathers (g.S.Sink.state l.initial.sink) l.initial.block (flat_map edge_between (take l.n l.graph.edges)) (g.S.Sink.state l.sink) l.block

use Rattle.std.proofs.Common.{take, flat_map}
use Rattle.text_out.specs.Gathers.{Gathers}
use Rattle.net_graph.specs.Members.{members_of}
use Rattle.printed_texts.specs.Plot.{edge_stroke}
use Rattle.printed_texts.proofs.plots.write_network.Given as goal

-- the strokes of the members among the numbers passed
abbrev pub invariant-loop-edge : goal.invariant-loop-edge
invariant-loop-edge g l = Gathers (g.S.Sink.state l.initial.sink) l.initial.block (flat_map (edge_stroke l.scale l.grid) (members_of (take l.edge l.network))) (g.S.Sink.state l.sink) l.block

use Rattle.std.proofs.Common.{take, flat_map}
use Rattle.text_out.specs.Gathers.{Gathers}
use Rattle.printed_texts.specs.Plot.{cross}
use Rattle.printed_texts.proofs.plots.write_crosses.Given as goal

-- the crosses of the points passed
abbrev pub invariant-loop-point : goal.invariant-loop-point
invariant-loop-point g l = Gathers (g.S.Sink.state l.initial.sink) l.initial.block (flat_map (cross l.scale) (take l.point-index l.points)) (g.S.Sink.state l.sink) l.block

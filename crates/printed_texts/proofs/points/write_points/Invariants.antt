use Rattle.std.proofs.Common.{take}
use Rattle.text_out.specs.Gathers.{Gathers}
use Rattle.points_in.specs.Text.{points_text}
use Rattle.printed_texts.proofs.points.write_points.Given as goal

-- the lines of the points passed
abbrev pub invariant-loop-point : goal.invariant-loop-point
invariant-loop-point g l = Gathers (g.S.Sink.state l.initial.sink) l.initial.block (points_text (take l.point-index l.points)) (g.S.Sink.state l.sink) l.block

use Rattle.std.proofs.Common.{map, take}
use Rattle.text_out.specs.Gathers.{Gathers}
use Rattle.answer_text.specs.LineKinds as line
use Rattle.answer_text.specs.Lines.{lines_text}
use Rattle.answer_text.proofs.write.write_cuts.Given as goal

-- the lines of the cuts passed
abbrev pub invariant-loop-cut : goal.invariant-loop-cut
invariant-loop-cut g l = Gathers (g.S.Sink.state l.initial.sink) l.initial.block (lines_text (map line.Cut (take l.cut-index l.cuts))) (g.S.Sink.state l.sink) l.block

use Rattle.std.specs.Prelude.{flat_map}
use Rattle.std.proofs.Common.{take}
use Rattle.text_out.specs.Gathers.{Gathers}
use Rattle.text_in.specs.Lines.{line_text}
use Rattle.section_text.specs.Words.{point_words}
use Rattle.fst_file.proofs.write.write_point_lines.Given as goal

abbrev pub invariant-loop-point : goal.invariant-loop-point
invariant-loop-point g l =
    Gathers (g.S.Sink.state l.initial.sink) l.initial.block (flat_map (λ p. line_text (point_words p)) (take l.point-index l.points)) (g.S.Sink.state l.sink) l.block

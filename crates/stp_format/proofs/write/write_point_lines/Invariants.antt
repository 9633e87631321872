use Rattle.std.specs.Prelude.{flat_map}
use Rattle.text_out.specs.Gathers.{Gathers}
use Rattle.stp_text.specs.Lines.{located_line}
use Rattle.stp_format.proofs.write.write_point_lines.Given as goal

abbrev pub invariant-loop-node : goal.invariant-loop-node
invariant-loop-node g l =
    Gathers (g.S.Sink.state l.initial.sink) l.initial.block (flat_map (λ p. located_line p.0.now p.1.now) l.yielded) (g.S.Sink.state l.sink) l.block

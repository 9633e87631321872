use Rattle.std.specs.Prelude.{flat_map}
use Rattle.std.proofs.Common.{take}
use Rattle.text_out.specs.Gathers.{Gathers}
use Rattle.stp_text.specs.Lines.{edge_line}
use Rattle.stp_format.proofs.write.write_edges.Given as goal

abbrev pub invariant-loop-edge : goal.invariant-loop-edge
invariant-loop-edge g l =
    Gathers (g.S.Sink.state l.initial.sink) l.initial.block (flat_map (λ e. edge_line e.i e.j e.length) (take l.edge-index l.edges)) (g.S.Sink.state l.sink) l.block

use Rattle.std.proofs.Common.{take}
use Rattle.text_out.specs.Gathers.{Gathers}
use Rattle.fst_file.specs.Pieces.{places_line}
use Rattle.fst_file.proofs.write.write_places.Given as goal

abbrev pub invariant-loop-place : goal.invariant-loop-place
invariant-loop-place g l =
    Gathers (g.S.Sink.state l.initial.sink) l.initial.block (places_line (take l.place-index l.places)) (g.S.Sink.state l.sink) l.block

use Rattle.std.proofs.Common.{take, flat_map}
use Rattle.text_out.specs.Gathers.{Gathers}
use Rattle.full_tree.specs.Pieces.{pieces_of}
use Rattle.printed_texts.specs.Trees.{piece_line}
use Rattle.printed_texts.proofs.trees.write_pieces.Given as goal

-- the lines of the pieces passed
abbrev pub invariant-loop-n : goal.invariant-loop-n
invariant-loop-n g l = Gathers (g.S.Sink.state l.initial.sink) l.initial.block (flat_map piece_line (take l.n (pieces_of l.grid l.code))) (g.S.Sink.state l.sink) l.block

use Rattle.lists.specs.ListLaws.{flat_map-take_more}
use Rattle.text_out.specs.GatherLaws.{gathers_two}
use Rattle.full_tree.specs.Pieces.{pieces_of}
use Rattle.printed_texts.specs.Trees.{piece_line}
use Rattle.printed_texts.proofs.trees.write_pieces.Goals as goal

pub loop-n-preserved : goal.loop-n-preserved
loop-n-preserved g c =
    gathers_two _ _ _ _ _ _ _ _ _ c.loop-n.invariant c.write_piece.ensures
    (flat_map-take_more piece_line (pieces_of c.args.grid.now c.args.code.now) c.loop-n.n c.piece.result c.piece.ensures.piece)

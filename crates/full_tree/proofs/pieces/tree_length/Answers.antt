use Rattle.std.proofs.Common.{arith}
use Rattle.std.proofs.lemmas.List.{take_all}
use Rattle.full_tree.specs.Pieces.{pieces_of}
use Rattle.full_tree.proofs.lemmas.Lengths.{code_length-le, sum-more, sum-more_le}
use Rattle.full_tree.proofs.pieces.tree_length.Goals as goal

pub overflow_add-length : goal.overflow_add-length
overflow_add-length c =
    let pieces = pieces_of c.args.grid.now c.args.code.now in
    let bound = sum-more_le pieces c.loop-n.n c.piece.result c.loop-n.length c.piece_length-length.result c.piece.ensures.piece c.loop-n.invariant c.piece_length-length.ensures in
    let whole = code_length-le c.args.grid.now c.args.code.now c.requires in
    omega (arith, c.graph.ensures.sound.total)

pub loop-n-preserved : goal.loop-n-preserved
loop-n-preserved c =
    sum-more (pieces_of c.args.grid.now c.args.code.now) c.loop-n.n c.piece.result c.loop-n.length c.piece_length-length.result c.piece.ensures.piece c.loop-n.invariant c.piece_length-length.ensures

pub returns-clause-within : goal.returns-clause-within
returns-clause-within c = grind (arith, take_all, code_length-le c.args.grid.now c.args.code.now c.requires)

pub returns-clause-fits : goal.returns-clause-fits
returns-clause-fits c = grind (arith, take_all, code_length-le c.args.grid.now c.args.code.now c.requires)

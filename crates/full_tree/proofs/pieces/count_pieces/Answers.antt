use Rattle.std.proofs.Common.{arith}
use Rattle.full_tree.proofs.lemmas.Nth.{length-pieces_of}
use Rattle.full_tree.proofs.pieces.count_pieces.Goals as goal

pub returns-in-Long : goal.returns-in-Long
returns-in-Long c =
    grind (arith, length-pieces_of c.args.points.now c.in-Long.root c.in-Long.toward c.in-Long.drops c.in-Long.side c.in-Long.tip)

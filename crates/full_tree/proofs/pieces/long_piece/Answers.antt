use Rattle.std.proofs.Common.{◌≡◌, ◌+◌, ◌-◌, length, refl, arith}
use Rattle.std.specs.Prelude.{option_to_list}
use Rattle.full_tree.specs.Pieces.{short_leg}
use Rattle.full_tree.proofs.lemmas.Nth.{nth_of_short_leg, nth_of_drops, nth_of_side, length-pieces_of}
use Rattle.full_tree.proofs.pieces.long_piece.Goals as goal

pub returns-then-n-legs : goal.returns-then-n-legs
returns-then-n-legs c =
    nth_of_short_leg c.args.points.now c.args.root c.args.toward c.args.drops.now c.args.side c.args.tip c.args.n c.short_leg_piece.result (c.args.n - (length c.args.drops.now + 1)) (omega arith) c.short_leg_piece.ensures

pub returns-then-n-legs-2 : goal.returns-then-n-legs-2
returns-then-n-legs-2 c =
    nth_of_drops c.args.points.now c.args.root c.args.toward c.args.drops.now c.args.side c.args.tip c.args.n c.drop_piece.result (c.args.n - (length c.args.drops.now + 1 + c.short_leg_count.result)) (omega (arith, c.short_leg_count.ensures.count)) c.if-n-legs-2.true c.drop_piece.ensures.from c.drop_piece.ensures.to

pub unreachable-requires : goal.unreachable-requires
unreachable-requires c =
    grind (arith, length-pieces_of c.args.points.now c.args.root c.args.toward c.args.drops.now c.args.side c.args.tip)

pub returns : goal.returns
returns c =
    let some = c.in-Some.is in
    let count = length-pieces_of c.args.points.now c.args.root c.args.toward c.args.drops.now c.args.side c.args.tip in
    let last : length (option_to_list c.args.side) ≡ 1 = rw some refl in
    let at : c.args.n ≡ length c.args.drops.now + 1 + length (short_leg c.args.points.now c.args.root c.args.toward c.args.side c.args.tip) + length c.args.drops.now = omega (arith, c.requires.within, c.short_leg_count.ensures.count) in
    rw some (nth_of_side c.args.points.now c.args.root c.args.toward c.args.drops.now c.in-Some.side c.args.tip c.args.n c.side_piece.result (rw some at at) c.side_piece.ensures.from c.side_piece.ensures.to)

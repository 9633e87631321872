use Rattle.std.proofs.Common.{[], ◌∷◌, map, arith, length-append}
use Rattle.std.proofs.lemmas.List.{length-map}
use Rattle.full_tree.specs.Pieces.{foot}
use Rattle.full_tree.proofs.lemmas.Nth.{slice_get-line_over}
use Rattle.full_tree.proofs.pieces.long_leg_piece.Goals as goal

pub returns : goal.returns
returns c =
    grind (
      arith,
      length-append (map (foot c.args.points.now c.args.root c.args.toward) c.args.drops.now) ((foot c.args.points.now c.args.root c.args.toward c.args.tip) ∷ []),
      length-map c.args.drops.now (foot c.args.points.now c.args.root c.args.toward),
      slice_get-line_over,
    )

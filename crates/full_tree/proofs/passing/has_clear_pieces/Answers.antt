use Rattle.std.proofs.Common.{refl, subst, sym, arith}
use Rattle.lists.specs.ListLaws.{All-at}
use Rattle.full_tree.specs.Code.{named_places}
use Rattle.full_tree.specs.Pieces.{pieces_of}
use Rattle.full_tree.specs.Passing.{IsClear}
use Rattle.full_tree.proofs.lemmas.Clear.{All-from_places, places_more}
use Rattle.full_tree.proofs.passing.has_clear_pieces.Goals as goal

pub returns-then-not-is_clear : goal.returns-then-not-is_clear
returns-then-not-is_clear c = (
  λ said. absurd cc,
  λ all. c.if-not-is_clear.ensures.1 (subst (λ ps. IsClear ps (named_places c.args.code.now) c.piece.result) (sym c.points.ensures)
      (All-at (IsClear c.args.grid.now (named_places c.args.code.now)) (pieces_of c.args.grid.now c.args.code.now) c.loop-n.n c.piece.result all c.piece.ensures.piece)),
)

pub loop-n-preserved : goal.loop-n-preserved
loop-n-preserved c = places_more (IsClear c.args.grid.now (named_places c.args.code.now)) (pieces_of c.args.grid.now c.args.code.now)
    c.loop-n.n c.piece.result c.loop-n.invariant c.piece.ensures.piece
    (subst (λ ps. IsClear ps (named_places c.args.code.now) c.piece.result) c.points.ensures (c.if-not-is_clear.ensures.0 refl))

pub returns : goal.returns
returns c = (
  λ said. All-from_places (IsClear c.args.grid.now (named_places c.args.code.now)) (pieces_of c.args.grid.now c.args.code.now)
      c.piece_count-n-end.result c.piece_count-n-end.ensures.count
      (λ k x under. c.loop-n.invariant k x (omega arith)),
  λ all. refl,
)

use Rattle.lists.specs.ListLaws.{All-at}
use Rattle.full_tree.specs.Pieces.{pieces_of}
use Rattle.full_tree.specs.Joined.{IsStraight, IsOnGrid}
use Rattle.full_tree.proofs.lemmas.Joins.{joins_members}
use Rattle.full_tree.proofs.pieces.piece.Goals as goal

pub returns-clause-straight : goal.returns-clause-straight
returns-clause-straight c =
    All-at IsStraight (pieces_of c.args.grid.now c.args.code.now) c.args.n c.nth_piece.result (joins_members c.args.grid.now c.args.code.now c.requires.form).straight (rw (c.as_slice.ensures, c.points.ensures) at c.nth_piece.ensures)

pub returns-clause-on_grid : goal.returns-clause-on_grid
returns-clause-on_grid c =
    All-at (IsOnGrid c.args.grid.now) (pieces_of c.args.grid.now c.args.code.now) c.args.n c.nth_piece.result (joins_members c.args.grid.now c.args.code.now c.requires.form).on_grid (rw (c.as_slice.ensures, c.points.ensures) at c.nth_piece.ensures)

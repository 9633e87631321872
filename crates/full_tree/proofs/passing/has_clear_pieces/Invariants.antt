use Rattle.std.proofs.Common.{ℕ, ◌<◌, ◌≡◌}
use Rattle.std.specs.Prelude.{slice_get, Some}
use Rattle.full_tree.specs.declared.straight.Piece.{Piece}
use Rattle.full_tree.specs.Code.{named_places}
use Rattle.full_tree.specs.Pieces.{pieces_of}
use Rattle.full_tree.specs.Passing.{IsClear}
use Rattle.full_tree.proofs.passing.has_clear_pieces.Given as goal

abbrev pub invariant-loop-n : goal.invariant-loop-n
invariant-loop-n l = (k : ℕ) (piece : Piece) → k < l.n → slice_get (pieces_of l.grid l.code) k ≡ Some piece
    → IsClear l.grid (named_places l.code) piece

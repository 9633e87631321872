use Rattle.std.proofs.Common.{◌≡◌, take}
use Rattle.std.specs.Prelude.{sum_by}
use Rattle.full_tree.specs.Pieces.{pieces_of, length_of_piece}
use Rattle.full_tree.proofs.pieces.tree_length.Given as goal

-- the pieces so far are summed
abbrev pub invariant-loop-n : goal.invariant-loop-n
invariant-loop-n l = l.length ≡ sum_by length_of_piece (take l.n (pieces_of l.grid l.code))

-- The edges of a grid that the trees at places of a list take.
use Rattle.std.specs.Prelude.{◌≡◌, ℕ, List, slice_get, Some, Contains}
use Rattle.points_in.specs.declared.point.Point.{Point}
use Rattle.full_tree.specs.declared.code.Tree.{Tree}
use Rattle.full_tree.specs.Pieces.{pieces_of}
use Rattle.full_tree.specs.Embedded.{IsOnPiece}

-- the edge lies on a piece of the tree at one of the places
abbrev pub IsOnNamed : List Point → List Tree → List ℕ → ℕ → Type 0
IsOnNamed ps trees places e = (k : ℕ) × (tree : Tree) × Contains places k × (slice_get trees k ≡ Some tree)
    × IsOnPiece ps (pieces_of ps tree.code) e

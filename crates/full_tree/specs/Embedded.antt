-- The edges of the grid on which a tree lies, and the vertices of its members.
use Rattle.std.specs.Prelude.{ℕ, ◌≤◌, Bool, false, List, length, map, replicate, sum_by, Contains}
use Rattle.points_in.specs.declared.point.Point.{Point}
use Rattle.net_graph.specs.Adds.{Adds}
use Rattle.net_graph.specs.Network.{length_of}
use Rattle.hanan_grid.specs.Grid.{xs_of, ys_of, vertex_of, hanan_grid_of}
use Rattle.hanan_grid.specs.Stretch.{IsOnStretch}
use Rattle.full_tree.specs.declared.straight.Piece.{Piece}
use Rattle.full_tree.specs.declared.code.TreeCode.{TreeCode}
use Rattle.full_tree.specs.Geometry.{point_at}
use Rattle.full_tree.specs.Code.{members_of}
use Rattle.full_tree.specs.Pieces.{length_of_piece}

-- the grid's edge of this number lies on one of the pieces
abbrev pub IsOnPiece : List Point → List Piece → ℕ → Type 0
IsOnPiece ps pieces e = (p : Piece) × Contains pieces p × IsOnStretch ps p.from p.to e

-- the vertex of the terminal at a place of the list
abbrev pub terminal_vertex : List Point → ℕ → ℕ
terminal_vertex ps k = vertex_of (xs_of ps) (ys_of ps) (point_at ps k)

-- the vertices of a code's members, in the members' order
abbrev pub member_vertices : List Point → TreeCode → List ℕ
member_vertices ps code = map (terminal_vertex ps) (members_of code)

-- a set that was empty holds the edges on the pieces, and is no longer than they are
pub record Embeds (ps : List Point) (pieces : List Piece) (set : List Bool) : Type 0 where
  pub edges : Adds (IsOnPiece ps pieces) (replicate (length (hanan_grid_of ps).edges) false) set
  pub length : length_of (hanan_grid_of ps) set ≤ sum_by length_of_piece pieces

-- The straight pieces of a tree, and its length.
use Rattle.std.specs.Prelude.{ℕ, pos, List, [], ◌∷◌, ◌++◌, map, sum_by, Option, option_to_list, if◌then◌else◌}
use Rattle.std.specs.Ordering.{int_eq}
use Rattle.points_in.specs.declared.point.Point.{Point}
use Rattle.hanan_grid.specs.Distance.{distance_between}
use Rattle.full_tree.specs.declared.way.Way.{Way}
use Rattle.full_tree.specs.declared.straight.Piece.{Piece}
use Rattle.full_tree.specs.declared.code.TreeCode.{TreeCode}
use Rattle.full_tree.specs.declared.code.TreeCode.TheVariants.{Long, Cross}
use Rattle.full_tree.specs.Geometry.{point_at, point_seen}
use Rattle.full_tree.specs.Form.{along_of, across_of}

-- the piece between two points
abbrev pub piece_between : Point → Point → Piece
piece_between p q = record { from = p; to = q }

-- the line from p over the points in order, cut at each of them
abbrev pub line_over : Point → List Point → List Piece
line_over p [] = []
line_over p (q ∷ qs) = piece_between p q ∷ line_over q qs

module _ (ps : List Point) (root : ℕ) (toward : Way) where
  -- the point of the long leg beside the terminal k, which is the foot of a drop and the tip's corner
  abbrev pub foot : ℕ → Point
  foot k = point_seen (point_at ps root) toward (along_of ps root toward k) (pos 0)

  -- the point of the short leg to the tip that lies beside the terminal k
  abbrev pub side_foot : ℕ → ℕ → Point
  side_foot tip k =
      point_seen (point_at ps root) toward (along_of ps root toward tip) (across_of ps root toward k)

  -- from the root over the feet of the drops to the corner
  abbrev pub long_leg : List ℕ → ℕ → List Piece
  long_leg drops tip = line_over (point_at ps root) (map foot drops ++ foot tip ∷ [])

  -- from the corner over the side's foot to the tip, unless the corner is the tip
  abbrev pub short_leg : Option ℕ → ℕ → List Piece
  short_leg side tip = if int_eq (across_of ps root toward tip) (pos 0) then []
      else line_over (foot tip) (map (side_foot tip) (option_to_list side) ++ point_at ps tip ∷ [])

  -- each drop from its foot
  abbrev pub drop_pieces : List ℕ → List Piece
  drop_pieces drops = map (λ k. piece_between (foot k) (point_at ps k)) drops

  -- the side from its foot
  abbrev pub side_piece : Option ℕ → ℕ → List Piece
  side_piece side tip = map (λ k. piece_between (side_foot tip k) (point_at ps k)) (option_to_list side)

-- the point where the lines of a cross meet, by its west and its south
abbrev pub crossing_of : List Point → ℕ → ℕ → Point
crossing_of ps west south = record { x = (point_at ps south).x; y = (point_at ps west).y }

-- the pieces of a code, in their order
abbrev pub pieces_of : List Point → TreeCode → List Piece
pieces_of ps (Long root toward drops side tip) = long_leg ps root toward drops tip
    ++ short_leg ps root toward side tip
    ++ drop_pieces ps root toward drops
    ++ side_piece ps root toward side tip
pieces_of ps (Cross west south east north) =
    map (λ k. piece_between (crossing_of ps west south) (point_at ps k)) (west ∷ south ∷ east ∷ north ∷ [])

-- a piece's length
abbrev pub length_of_piece : Piece → ℕ
length_of_piece p = distance_between p.from p.to

-- a tree's length: the sum of its pieces' lengths
abbrev pub code_length : List Point → TreeCode → ℕ
code_length ps code = sum_by length_of_piece (pieces_of ps code)

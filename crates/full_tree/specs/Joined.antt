-- When straight pieces are one tree that joins a code's members.
use Rattle.std.specs.Prelude.{◌≡◌, ◌⊎◌, List, [], ◌∷◌, flat_map, All, Contains}
use Rattle.points_in.specs.declared.point.Point.{Point}
use Rattle.hanan_grid.specs.Grid.{xs_of, ys_of}
use Rattle.hanan_grid.specs.Names.{IsCrossing}
use Rattle.full_tree.specs.declared.straight.Piece.{Piece}
use Rattle.full_tree.specs.declared.code.TreeCode.{TreeCode}
use Rattle.full_tree.specs.Geometry.{point_at}
use Rattle.full_tree.specs.Code.{named_places}
use Rattle.full_tree.specs.Pieces.{pieces_of}

-- a piece runs along an axis
abbrev pub IsStraight : Piece → Type 0
IsStraight p = (p.from.x ≡ p.to.x) ⊎ (p.from.y ≡ p.to.y)

-- each piece begins at one of these points or where an earlier piece ends
abbrev pub GrowsFrom : List Point → List Piece → Type 0
GrowsFrom reached [] = Unit {0}
GrowsFrom reached (p ∷ pieces) = Contains reached p.from × GrowsFrom (p.to ∷ reached) pieces

-- each piece after the first begins at an end of an earlier one
abbrev pub HangsTogether : List Piece → Type 0
HangsTogether [] = Unit {0}
HangsTogether (p ∷ pieces) = GrowsFrom (p.to ∷ p.from ∷ []) pieces

-- the ends of the pieces
abbrev pub ends_of : List Piece → List Point
ends_of pieces = flat_map (λ p. p.from ∷ p.to ∷ []) pieces

-- both ends of a piece are crossings of the points' grid
pub record IsOnGrid (ps : List Point) (p : Piece) : Type 0 where
  pub from : IsCrossing (xs_of ps) (ys_of ps) p.from
  pub to : IsCrossing (xs_of ps) (ys_of ps) p.to

-- The pieces of a code are straight lines between crossings of the points' grid, hang together, and end
-- at each member.
pub record JoinsMembers (ps : List Point) (code : TreeCode) : Type 0 where
  pub straight : All IsStraight (pieces_of ps code)
  pub on_grid : All (IsOnGrid ps) (pieces_of ps code)
  pub together : HangsTogether (pieces_of ps code)
  pub members : All (λ k. Contains (ends_of (pieces_of ps code)) (point_at ps k)) (named_places code)

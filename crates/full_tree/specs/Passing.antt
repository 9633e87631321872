-- Which full trees pass: those that no terminal touches but at their members, and none of whose stretches
-- is longer than the bottleneck of two members between which it lies.
use Rattle.std.specs.Prelude.{ℕ, ◌≡◌, ◌<◌, ◌≤◌, ◌⊎◌, ℤ, ◌≤ℤ◌, List, length, All, Contains}
use Rattle.points_in.specs.declared.point.Point.{Point}
use Rattle.spanning.specs.Bottleneck.{IsBottleneck}
use Rattle.full_tree.specs.declared.straight.Piece.{Piece}
use Rattle.full_tree.specs.declared.station.Station.{Station}
use Rattle.full_tree.specs.declared.code.TreeCode.{TreeCode}
use Rattle.full_tree.specs.Geometry.{point_at}
use Rattle.full_tree.specs.Code.{named_places}
use Rattle.full_tree.specs.Form.{IsInForm}
use Rattle.full_tree.specs.Pieces.{pieces_of}
use Rattle.full_tree.specs.Stations.{stations_of, station_at}

-- the value lies between two others or is one of them
abbrev pub IsBetween : ℤ → ℤ → ℤ → Type 0
IsBetween a b z = ((a ≤ℤ z) × (z ≤ℤ b)) ⊎ ((b ≤ℤ z) × (z ≤ℤ a))

-- the point lies on the straight piece, its ends included
pub record LiesOn (piece : Piece) (p : Point) : Type 0 where
  pub x : IsBetween piece.from.x piece.to.x p.x
  pub y : IsBetween piece.from.y piece.to.y p.y

-- the point is one of the piece's two ends
abbrev pub IsEndOf : Piece → Point → Type 0
IsEndOf piece p = (p ≡ piece.from) ⊎ (p ≡ piece.to)

-- where the terminal k lies on the piece, it is one of these members and one of the piece's two ends
abbrev pub IsClearOf : List Point → List ℕ → Piece → ℕ → Type 0
IsClearOf ps named piece k = LiesOn piece (point_at ps k) → Contains named k × IsEndOf piece (point_at ps k)

-- each terminal that lies on the piece is one of these members, and one of the piece's two ends
abbrev pub IsClear : List Point → List ℕ → Piece → Type 0
IsClear ps named piece = (k : ℕ) → k < length ps → IsClearOf ps named piece k

-- the length is at most the bottleneck of the terminals at two places
abbrev pub IsWithinBottleneck : List Point → ℕ → ℕ → ℕ → Type 0
IsWithinBottleneck ps i j n = (most : ℕ) → IsBottleneck ps i j most → n ≤ most

-- Each stretch on the tree path between the members of two stations is at most their bottleneck: the
-- pieces by which they hang, and the stretches of the spine from the one station to the other.
pub record KeepsBetween (ps : List Point) (stations : List Station) (a b : ℕ) : Type 0 where
  pub first : IsWithinBottleneck ps (station_at stations a).member (station_at stations b).member
      (station_at stations a).leg
  pub last : IsWithinBottleneck ps (station_at stations a).member (station_at stations b).member
      (station_at stations b).leg
  pub spine : (c : ℕ) → a < c → c ≤ b
      → IsWithinBottleneck ps (station_at stations a).member (station_at stations b).member
      (station_at stations c).before

-- .. and so for a station and each one before it
abbrev pub KeepsUpTo : List Point → List Station → ℕ → Type 0
KeepsUpTo ps stations b = (a : ℕ) → a < b → KeepsBetween ps stations a b

-- .. and so for each two stations
abbrev pub KeepsBottlenecks : List Point → List Station → Type 0
KeepsBottlenecks ps stations = (b : ℕ) → b < length stations → KeepsUpTo ps stations b

-- The code passes: it is in form; each terminal that lies on a piece is a member and one of that piece's
-- two ends; and for each two members, each stretch on the tree path between them is at most their
-- bottleneck.
pub record Passes (ps : List Point) (code : TreeCode) : Type 0 where
  pub form : IsInForm ps code
  pub clear : All (IsClear ps (named_places code)) (pieces_of ps code)
  pub bottlenecks : KeepsBottlenecks ps (stations_of ps code)

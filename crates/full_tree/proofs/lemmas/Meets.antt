-- Where lines through points meet, and how long straight pieces are.
use Rattle.std.proofs.Common.{ℕ, ◌+◌, ◌*◌, ◌≡◌, ◌<◌, ℤ, pos, ◌+ℤ◌, ◌-ℤ◌, ◌≤ℤ◌, List, length, arith, unsigned_abs}
use Rattle.std.specs.Prelude.{Contains}
use Rattle.std.proofs.lemmas.Int.{ints}
use Rattle.points_in.specs.declared.point.Point.{Point}
use Rattle.points_in.specs.PointLaws.{same_coordinates}
use Rattle.net_graph.specs.Graph.{total_of}
use Rattle.hanan_grid.specs.Distance.{distance_between}
use Rattle.hanan_grid.specs.Grid.{xs_of, ys_of, hanan_grid_of}
use Rattle.hanan_grid.specs.GridLaws.{Contains-xs_of, Contains-ys_of, IsRising-xs_of, IsRising-ys_of}
use Rattle.hanan_grid.specs.LinesLaws.{IsRising}
use Rattle.hanan_grid.specs.Names.{IsCrossing}
use Rattle.hanan_grid.specs.TotalLaws.{width_of, total_of-hanan_grid_of}
use Rattle.full_tree.specs.declared.way.Way.{Way}
use Rattle.full_tree.specs.declared.way.Way.TheVariants.{East, North, West, South}
use Rattle.full_tree.specs.Geometry.{point_at, along, across, point_seen, meet}
use Rattle.full_tree.specs.Pieces.{piece_between}
use Rattle.full_tree.specs.Joined.{IsStraight}

-- the coordinate that changes ahead, and the one that changes across
abbrev pub ahead : Way → Point → ℤ
ahead East p = p.x
ahead North p = p.y
ahead West p = p.x
ahead South p = p.y

abbrev pub aside : Way → Point → ℤ
aside East p = p.y
aside North p = p.x
aside West p = p.y
aside South p = p.x

-- a point is known by its two coordinates
pub same_seen : (w : Way) (p q : Point) → ahead w p ≡ ahead w q → aside w p ≡ aside w q → p ≡ q
same_seen w p q a b = grind arith

-- the point seen as far ahead as p and as far to the left as q is where their lines meet
pub point_seen-meet : (r : Point) (w : Way) (p q : Point) → point_seen r w (along r w p) (across r w q) ≡ meet w p q
point_seen-meet r East p q = same_coordinates _ (meet East p q) (omega (arith, ints)) (omega (arith, ints))
point_seen-meet r North p q = same_coordinates _ (meet North p q) (omega (arith, ints)) (omega (arith, ints))
point_seen-meet r West p q = same_coordinates _ (meet West p q) (omega (arith, ints)) (omega (arith, ints))
point_seen-meet r South p q = same_coordinates _ (meet South p q) (omega (arith, ints)) (omega (arith, ints))

-- the point seen as far ahead as p and on r's own line
pub point_seen-foot : (r : Point) (w : Way) (p : Point) → point_seen r w (along r w p) (pos 0) ≡ meet w p r
point_seen-foot r East p = same_coordinates _ (meet East p r) (omega (arith, ints)) (omega (arith, ints))
point_seen-foot r North p = same_coordinates _ (meet North p r) (omega (arith, ints)) (omega (arith, ints))
point_seen-foot r West p = same_coordinates _ (meet West p r) (omega (arith, ints)) (omega (arith, ints))
point_seen-foot r South p = same_coordinates _ (meet South p r) (omega (arith, ints)) (omega (arith, ints))

-- ---- straight pieces

pub straight_ahead : (w : Way) (p q : Point) → aside w p ≡ aside w q → IsStraight (piece_between p q)
straight_ahead w p q same = grind arith

pub straight_across : (w : Way) (p q : Point) → ahead w p ≡ ahead w q → IsStraight (piece_between p q)
straight_across w p q same = grind arith

-- ---- distances

-- a line ahead to a point further ahead is as long as that is further
pub distance_ahead : (r : Point) (w : Way) (p q : Point) → aside w p ≡ aside w q → along r w p ≤ℤ along r w q → along r w p +ℤ pos (distance_between p q) ≡ along r w q
distance_ahead r East p q level further = omega (arith, ints)
distance_ahead r North p q level further = omega (arith, ints)
distance_ahead r West p q level further = omega (arith, ints)
distance_ahead r South p q level further = omega (arith, ints)

-- a line across is as long as the ends are apart across
pub distance_across : (r : Point) (w : Way) (p q : Point) → ahead w p ≡ ahead w q → distance_between p q ≡ unsigned_abs (across r w p -ℤ across r w q)
distance_across r East p q plumb = omega (arith, ints)
distance_across r North p q plumb = omega (arith, ints)
distance_across r West p q plumb = omega (arith, ints)
distance_across r South p q plumb = omega (arith, ints)

-- the coordinates against what is seen
pub along-same : (r : Point) (w : Way) (p q : Point) → ahead w p ≡ ahead w q → along r w p ≡ along r w q
along-same r w p q same = grind arith

pub across-same : (r : Point) (w : Way) (p q : Point) → aside w p ≡ aside w q → across r w p ≡ across r w q
across-same r w p q same = grind arith

-- ---- the lines of the points' grid

-- the lines that are crossed on the way ahead, and those that run ahead
abbrev pub lines_ahead : Way → List Point → List ℤ
lines_ahead East ps = xs_of ps
lines_ahead North ps = ys_of ps
lines_ahead West ps = xs_of ps
lines_ahead South ps = ys_of ps

abbrev pub lines_aside : Way → List Point → List ℤ
lines_aside East ps = ys_of ps
lines_aside North ps = xs_of ps
lines_aside West ps = ys_of ps
lines_aside South ps = xs_of ps

pub IsRising-lines_aside : (w : Way) (ps : List Point) → IsRising (lines_aside w ps)
IsRising-lines_aside w ps = grind (arith, IsRising-ys_of, IsRising-xs_of)

-- a terminal's coordinates are lines
pub Contains-lines_ahead : (w : Way) (ps : List Point) (k : ℕ) → k < length ps → Contains (lines_ahead w ps) (ahead w (point_at ps k))
Contains-lines_ahead East ps k inside = Contains-xs_of ps k _ inside
Contains-lines_ahead North ps k inside = Contains-ys_of ps k _ inside
Contains-lines_ahead West ps k inside = Contains-xs_of ps k _ inside
Contains-lines_ahead South ps k inside = Contains-ys_of ps k _ inside

pub Contains-lines_aside : (w : Way) (ps : List Point) (k : ℕ) → k < length ps → Contains (lines_aside w ps) (aside w (point_at ps k))
Contains-lines_aside East ps k inside = Contains-ys_of ps k _ inside
Contains-lines_aside North ps k inside = Contains-xs_of ps k _ inside
Contains-lines_aside West ps k inside = Contains-ys_of ps k _ inside
Contains-lines_aside South ps k inside = Contains-xs_of ps k _ inside

-- a terminal is a crossing
pub IsCrossing-point_at : (ps : List Point) (k : ℕ) → k < length ps → IsCrossing (xs_of ps) (ys_of ps) (point_at ps k)
IsCrossing-point_at ps k inside = record { x = Contains-xs_of ps k _ inside; y = Contains-ys_of ps k _ inside }

-- where lines through crossings meet is a crossing
pub IsCrossing-meet : (xs ys : List ℤ) (w : Way) (p q : Point) → IsCrossing xs ys p → IsCrossing xs ys q → IsCrossing xs ys (meet w p q)
IsCrossing-meet xs ys East p q at at' = record { x = at.x; y = at'.y }
IsCrossing-meet xs ys North p q at at' = record { x = at'.x; y = at.y }
IsCrossing-meet xs ys West p q at at' = record { x = at.x; y = at'.y }
IsCrossing-meet xs ys South p q at at' = record { x = at'.x; y = at.y }

-- the grid's total by the lines ahead and across
pub total_seen : (w : Way) (ps : List Point) → total_of (hanan_grid_of ps) ≡ length (lines_aside w ps) * width_of (lines_ahead w ps) + length (lines_ahead w ps) * width_of (lines_aside w ps)
total_seen w ps = grind (arith, total_of-hanan_grid_of)

-- what lies straight ahead lies on the line ahead
pub aside-across : (r : Point) (w : Way) (p : Point) → across r w p ≡ pos 0 → aside w p ≡ aside w r
aside-across r East p level = omega (arith, ints)
aside-across r North p level = omega (arith, ints)
aside-across r West p level = omega (arith, ints)
aside-across r South p level = omega (arith, ints)

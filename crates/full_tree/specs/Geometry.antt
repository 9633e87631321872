-- Where points lie, seen from a terminal that looks in a direction.
use Rattle.std.specs.Prelude.{ℕ, ℤ, pos, ◌+ℤ◌, ◌-ℤ◌, ◌<ℤ◌, ◌⊎◌, List, [], ◌∷◌, slice_index_or}
use Rattle.points_in.specs.declared.point.Point.{Point}
use Rattle.hanan_grid.specs.Distance.{origin}
use Rattle.full_tree.specs.declared.way.Way.{Way}
use Rattle.full_tree.specs.declared.way.Way.TheVariants.{East, North, West, South}

-- the point at a place of a list
abbrev pub point_at : List Point → ℕ → Point
point_at ps k = slice_index_or ps k origin

-- how far a point lies ahead of r in a direction
abbrev pub along : Point → Way → Point → ℤ
along r East p = p.x -ℤ r.x
along r North p = p.y -ℤ r.y
along r West p = r.x -ℤ p.x
along r South p = r.y -ℤ p.y

-- how far it lies to the left of who looks from r in that direction
abbrev pub across : Point → Way → Point → ℤ
across r East p = p.y -ℤ r.y
across r North p = r.x -ℤ p.x
across r West p = r.y -ℤ p.y
across r South p = p.x -ℤ r.x

-- the point that lies so far ahead of r and so far to the left
abbrev pub point_seen : Point → Way → ℤ → ℤ → Point
point_seen r East ahead left = record { x = r.x +ℤ ahead; y = r.y +ℤ left }
point_seen r North ahead left = record { x = r.x -ℤ left; y = r.y +ℤ ahead }
point_seen r West ahead left = record { x = r.x -ℤ ahead; y = r.y -ℤ left }
point_seen r South ahead left = record { x = r.x +ℤ left; y = r.y -ℤ ahead }

-- the point that lies as far ahead as p and as far to the left as q, wherever one looks from
abbrev pub meet : Way → Point → Point → Point
meet East p q = record { x = p.x; y = q.y }
meet North p q = record { x = q.x; y = p.y }
meet West p q = record { x = p.x; y = q.y }
meet South p q = record { x = q.x; y = p.y }

-- the values rise, each above the one before it, and the first above z
abbrev pub RisesFrom : ℤ → List ℤ → Type 0
RisesFrom z [] = Unit {0}
RisesFrom z (y ∷ ys) = (z <ℤ y) × RisesFrom y ys

-- one value is negative and the other one positive
abbrev pub AreOpposite : ℤ → ℤ → Type 0
AreOpposite c d = ((c <ℤ pos 0) × (pos 0 <ℤ d)) ⊎ ((pos 0 <ℤ c) × (d <ℤ pos 0))

-- of c and the values, each two neighbours are opposite
abbrev pub AlternatesAfter : ℤ → List ℤ → Type 0
AlternatesAfter c [] = Unit {0}
AlternatesAfter c (d ∷ ds) = AreOpposite c d × AlternatesAfter d ds

-- each two neighbours are opposite
abbrev pub Alternates : List ℤ → Type 0
Alternates [] = Unit {0}
Alternates (c ∷ cs) = AlternatesAfter c cs

-- the value lies strictly between 0 and d
abbrev pub IsBetweenZeroAnd : ℤ → ℤ → Type 0
IsBetweenZeroAnd d c = ((pos 0 <ℤ c) × (c <ℤ d)) ⊎ ((c <ℤ pos 0) × (d <ℤ c))

-- The stations of a full tree: where its members hang on its spine, in order. The spine of a long code
-- runs from the root over the corner to the tip; that of a cross is the point where its lines meet.
use Rattle.std.specs.Prelude.{ℕ, ◌+◌, List, [], ◌∷◌, ◌++◌, map, Option, Some, None, slice_index_or}
use Rattle.points_in.specs.declared.point.Point.{Point}
use Rattle.hanan_grid.specs.Distance.{distance_between}
use Rattle.full_tree.specs.declared.way.Way.{Way}
use Rattle.full_tree.specs.declared.station.Station.{Station}
use Rattle.full_tree.specs.declared.code.TreeCode.{TreeCode}
use Rattle.full_tree.specs.declared.code.TreeCode.TheVariants.{Long, Cross}
use Rattle.full_tree.specs.Geometry.{point_at}
use Rattle.full_tree.specs.Pieces.{foot, side_foot, crossing_of}

-- the station of a member, with the stretch of the spine that leads to it and the piece by which the
-- member hangs there
abbrev pub station : ℕ → ℕ → ℕ → Station
station member before leg = record { member = member; before = before; leg = leg }

module _ (ps : List Point) (root : ℕ) (toward : Way) where
  -- the stations of drops, where the spine comes from a point
  abbrev pub drop_stations : Point → List ℕ → List Station
  drop_stations from [] = []
  drop_stations from (d ∷ ds) =
      station d (distance_between from (foot ps root toward d))
      (distance_between (foot ps root toward d) (point_at ps d))
      ∷ drop_stations (foot ps root toward d) ds

  -- the last foot of drops, or the point before them where there is none
  abbrev pub last_foot : Point → List ℕ → Point
  last_foot from [] = from
  last_foot from (d ∷ ds) = last_foot (foot ps root toward d) ds

  -- the stations behind the drops; the two pieces that meet at the corner are one stretch
  abbrev pub end_stations : Point → Option ℕ → ℕ → List Station
  end_stations from None tip = station tip
      (distance_between from (foot ps root toward tip)
      + distance_between (foot ps root toward tip) (point_at ps tip)) 0 ∷ []
  end_stations from (Some q) tip =
      station q
      (distance_between from (foot ps root toward tip)
      + distance_between (foot ps root toward tip) (side_foot ps root toward tip q))
      (distance_between (side_foot ps root toward tip q) (point_at ps q))
      ∷ station tip (distance_between (side_foot ps root toward tip q) (point_at ps tip)) 0 ∷ []

  -- the stations of the root and of drops
  abbrev pub first_stations : List ℕ → List Station
  first_stations drops = station root 0 0 ∷ drop_stations (point_at ps root) drops

-- the stations of a code, in their order on the spine
abbrev pub stations_of : List Point → TreeCode → List Station
stations_of ps (Long root toward drops side tip) = first_stations ps root toward drops
    ++ end_stations ps root toward (last_foot ps root toward (point_at ps root) drops) side tip
stations_of ps (Cross west south east north) =
    map (λ k. station k 0 (distance_between (crossing_of ps west south) (point_at ps k)))
    (west ∷ south ∷ east ∷ north ∷ [])

-- the station at a position, counted from 0
abbrev pub station_at : List Station → ℕ → Station
station_at stations n = slice_index_or stations n (station 0 0 0)

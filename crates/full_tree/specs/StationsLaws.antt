-- What the stations of a code come to.
use Rattle.std.specs.Prelude.{ℕ, ◌≡◌, List, [], ◌∷◌, ◌++◌, map, All, Option, None, Some, option_to_list}
use Rattle.std.proofs.Common.{refl, ap, arith}
use Rattle.std.proofs.lemmas.List.{append_assoc, get_or-map, length-map}
use Rattle.points_in.specs.declared.point.Point.{Point}
use Rattle.full_tree.specs.declared.way.Way.{Way}
use Rattle.full_tree.specs.declared.station.Station.{Station}
use Rattle.full_tree.specs.declared.code.TreeCode.{TreeCode}
use Rattle.full_tree.specs.declared.code.TreeCode.TheVariants.{Long, Cross}
use Rattle.full_tree.specs.Geometry.{point_at}
use Rattle.full_tree.specs.Code.{named_places}
use Rattle.full_tree.specs.Pieces.{foot}
use Rattle.full_tree.specs.Stations.{drop_stations, end_stations, last_foot, stations_of}

-- the member of a station
abbrev pub member_of : Station → ℕ
member_of s = s.member

map-append : (xs ys : List Station) → map member_of (xs ++ ys) ≡ map member_of xs ++ map member_of ys
map-append [] ys = refl
map-append (x ∷ xs) ys = ap (λ (rest : List ℕ). x.member ∷ rest) (map-append xs ys)

module _ (ps : List Point) (root : ℕ) (toward : Way) where
  drop_stations-members : (from : Point) (ds : List ℕ) → map member_of (drop_stations ps root toward from ds) ≡ ds
  drop_stations-members from [] = refl
  drop_stations-members from (d ∷ ds) =
      ap (λ (rest : List ℕ). d ∷ rest) (drop_stations-members (foot ps root toward d) ds)

  end_stations-members : (from : Point) (side : Option ℕ) (tip : ℕ)
      → map member_of (end_stations ps root toward from side tip) ≡ option_to_list side ++ tip ∷ []
  end_stations-members from None tip = refl
  end_stations-members from (Some q) tip = refl

-- the stations' members are the places that the code names, in the same order
pub stations_of-members : (ps : List Point) (code : TreeCode) → map member_of (stations_of ps code) ≡ named_places code
stations_of-members ps (Long root toward drops side tip) =
    grind (
      arith,
      map-append (drop_stations ps root toward (point_at ps root) drops) (end_stations ps root toward
          (last_foot ps root toward (point_at ps root) drops) side tip),
      drop_stations-members ps root toward (point_at ps root) drops,
      end_stations-members ps root toward (last_foot ps root toward (point_at ps root) drops) side tip,
      append_assoc drops (option_to_list side) (tip ∷ []),
    )
stations_of-members ps (Cross w s e n) = refl

-- what holds of each place that a code names holds of each station's member
pub All-stations : (P : ℕ → Type 0) (ps : List Point) (code : TreeCode) → All P (named_places code)
    → All (λ s. P s.member) (stations_of ps code)
All-stations P ps code all k d inside =
    grind (
      arith,
      stations_of-members ps code,
      length-map (stations_of ps code) member_of,
      get_or-map member_of (stations_of ps code) k d (member_of d) inside,
    )

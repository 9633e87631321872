-- The stations of drops, one drop after another.
use Rattle.std.proofs.Common.{ℕ, suc, ◌+◌, ◌≡◌, ◌<◌, List, [], ◌∷◌, ◌++◌, length, take, get_or, refl, ap, ◌∙◌, arith, length-append, length-take}
use Rattle.std.proofs.lemmas.List.{take_more, append_assoc}
use Rattle.std.specs.Prelude.{Option, option_to_list}
use Rattle.points_in.specs.declared.point.Point.{Point}
use Rattle.hanan_grid.specs.Distance.{distance_between}
use Rattle.full_tree.specs.declared.station.Station.{Station}
use Rattle.full_tree.specs.declared.way.Way.{Way}
use Rattle.full_tree.specs.Geometry.{point_at}
use Rattle.full_tree.specs.Pieces.{foot}
use Rattle.full_tree.specs.LongLaws.{NamesFew}
use Rattle.full_tree.specs.Stations.{station, drop_stations, first_stations, last_foot}

module _ (ps : List Point) (root : ℕ) (toward : Way) where
  pub drop_stations-more : (from : Point) (ds : List ℕ) (d : ℕ)
      → drop_stations ps root toward from (ds ++ d ∷ []) ≡ drop_stations ps root toward from ds
      ++ station d (distance_between (last_foot ps root toward from ds) (foot ps root toward d))
      (distance_between (foot ps root toward d) (point_at ps d)) ∷ []
  drop_stations-more from [] d = refl
  drop_stations-more from (x ∷ ds) d = search (drop_stations-more (foot ps root toward x) ds d)

  pub last_foot-more : (from : Point) (ds : List ℕ) (d : ℕ) → last_foot ps root toward from (ds ++ d ∷ []) ≡ foot ps root toward d
  last_foot-more from [] d = refl
  last_foot-more from (x ∷ ds) d = last_foot-more (foot ps root toward x) ds d

module _ (ps : List Point) (root : ℕ) (toward : Way) where
  drop_stations-length : (from : Point) (ds : List ℕ) → length (drop_stations ps root toward from ds) ≡ length ds
  drop_stations-length from [] = refl
  drop_stations-length from (d ∷ ds) = ap suc (drop_stations-length (foot ps root toward d) ds)

  -- how many stations there are behind the first drops
  pub first_stations-room : (old now : List Station) (drops : List ℕ) (i : ℕ) → i < length drops
      → now ≡ old ++ first_stations ps root toward (take i drops) → length old + length drops < 8 → length now < 8
  first_stations-room old now drops i inside is room =
      grind (arith, length-append old (first_stations ps root toward (take i drops)), drop_stations-length (point_at ps root) (take i drops), length-take i drops)

  -- one drop more
  pub first_stations-more : (old now new : List Station) (from at p : Point) (drops : List ℕ) (i before leg : ℕ)
      → i < length drops → now ≡ old ++ first_stations ps root toward (take i drops)
      → from ≡ last_foot ps root toward (point_at ps root) (take i drops)
      → at ≡ foot ps root toward (get_or drops i 0) → before ≡ distance_between from at
      → p ≡ point_at ps (get_or drops i 0) → leg ≡ distance_between at p
      → new ≡ now ++ record { member = get_or drops i 0; before = before; leg = leg } ∷ []
      → (new ≡ old ++ first_stations ps root toward (take (i + 1) drops))
      × (at ≡ last_foot ps root toward (point_at ps root) (take (i + 1) drops))
  first_stations-more old now new from at p drops i before leg inside is here foot_is before_is p_is leg_is new_is =
      let d = get_or drops i 0 in
      let start = point_at ps root in
      let e = take_more drops i 0 inside in
      let x : Station = station d (distance_between (last_foot ps root toward start (take i drops)) (foot ps root toward d))
      (distance_between (foot ps root toward d) (point_at ps d)) in
      let y : Station = record { member = d; before = before; leg = leg } in
      let same : y ≡ x = cc in
      let whole = ap (drop_stations ps root toward start) e ∙ drop_stations-more ps root toward start (take i drops) d in
      let all = ap (λ (rest : List Station). old ++ (station root 0 0 ∷ rest)) whole in
      let joined = append_assoc old (first_stations ps root toward (take i drops)) (x ∷ []) in
      let last = ap (last_foot ps root toward start) e ∙ last_foot-more ps root toward start (take i drops) d in
      (cc, cc)

-- there is room for the stations behind the drops
pub end_stations-room : (ps : List Point) (root : ℕ) (toward : Way) (drops : List ℕ) (side : Option ℕ) (tip : ℕ) (none now : List Station)
    → NamesFew ps root drops side tip → none ≡ [] → now ≡ none ++ first_stations ps root toward drops
    → length now + length (option_to_list side) < 8
end_stations-room ps root toward drops side tip none now few empty is = grind (arith, drop_stations-length)
